pub mod OldStates
