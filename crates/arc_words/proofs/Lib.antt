pub mod Axes
