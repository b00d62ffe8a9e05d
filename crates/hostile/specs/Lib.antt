pub mod Answers
pub mod Showings
pub mod Standing
pub mod Verdicts
