pub mod Batches
pub mod Recording
pub mod Saying
pub mod ReadBatches
pub mod ReadLaws
pub mod parts
