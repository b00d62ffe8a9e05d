pub mod Codes
pub mod Filling
pub mod Counting
pub mod Calls
pub mod parts
