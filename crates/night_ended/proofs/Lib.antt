pub mod EndedShut
