pub mod Cells
pub mod Manifests
