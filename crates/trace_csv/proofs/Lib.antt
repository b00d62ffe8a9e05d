pub mod CellsOfRow
pub mod KeptOfSchemaName
pub mod OneColumnMore
pub mod ManifestTokens
pub mod RowsReadBack
