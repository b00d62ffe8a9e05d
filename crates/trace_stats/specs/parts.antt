pub mod Events
pub mod Floats
pub mod Places
pub mod Runs
