pub mod Ranges
pub mod Resets
pub mod Cuts
pub mod Sent
pub mod parts
