pub mod Clocks
pub mod Roles
pub mod Units
