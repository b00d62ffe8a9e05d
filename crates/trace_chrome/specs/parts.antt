pub mod Codes
pub mod Counts
pub mod Parts
pub mod Shapes
