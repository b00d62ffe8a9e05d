pub mod EventJson
pub mod Put
pub mod Lines
pub mod Laws
pub mod Sending
pub mod parts
