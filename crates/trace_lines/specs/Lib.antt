pub mod Appending
pub mod Lines
pub mod ResolvedLines
pub mod Dumps
pub mod PieceDumps
pub mod Program
pub mod SentLines
pub mod parts
