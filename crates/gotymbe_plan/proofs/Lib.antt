pub mod EndingTexts
pub mod SortWasDone
pub mod TimesBesideMoments
pub mod OneGroupMore
pub mod PercentOfWhole
pub mod LinesOfFields
pub mod EndingOnPage
pub mod ToldInOneLine
