pub mod Dense
pub mod parts
