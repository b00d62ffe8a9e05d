pub mod Stacks
pub mod Tallies
pub mod Events
pub mod parts
