pub mod Rules
pub mod Conversions
pub mod Steps
pub mod Written
pub mod parts
