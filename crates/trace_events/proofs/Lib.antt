pub mod EventOfFrame
pub mod Depths
