pub mod Tallies
pub mod Events
