pub mod FirstCells
