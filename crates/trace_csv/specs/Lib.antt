pub mod Cells
pub mod CellKinds
pub mod Columns
pub mod Files
pub mod Tables
pub mod parts
pub mod Manifests
pub mod Laws
