pub mod ConvertedFields
pub mod ConvertedItemsAndPairs
pub mod SentByConversion
