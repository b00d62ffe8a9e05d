pub mod OwnedEvents
pub mod Holding
pub mod Schemas
