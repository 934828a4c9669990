pub mod Chords
