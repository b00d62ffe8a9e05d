pub mod Counting
pub mod ValueAddedToField
pub mod FloatAddedToSummary
pub mod TextsByTheirEnds
pub mod EventAddedToSchema
pub mod EventAddedToTrace
pub mod EventsOfRun
