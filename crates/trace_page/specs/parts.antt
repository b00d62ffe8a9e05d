pub mod Writing
pub mod Assembling
