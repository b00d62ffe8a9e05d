pub mod Calls
pub mod Clocks
pub mod Failures
pub mod Picks
pub mod Reading
