pub mod Growing
pub mod GrowingLaws
pub mod Put
pub mod SentJson
pub mod Shown
