pub mod Dense
pub mod Hashed
pub mod Interned
pub mod Placed
pub mod Runs
