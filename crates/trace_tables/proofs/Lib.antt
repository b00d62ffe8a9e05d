pub mod CopiedOption
pub mod SortedEntries
pub mod OneKeyChanged
pub mod FoundByCell
pub mod PlacedById
pub mod TreeAsFiniteMap
pub mod RunAndOthers
pub mod HashedAsFiniteMap
