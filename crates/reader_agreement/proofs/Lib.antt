pub mod Apart
pub mod SideBySide
pub mod InFull
pub mod Lookups
pub mod PairsLeft
pub mod ResolvedAnswers
pub mod SignAtEachPlace
pub mod TwoLists
