pub mod EventEntries
pub mod Manners
pub mod OptionalFields
pub mod Polls
pub mod Telling
