pub mod Reading
pub mod Asking
pub mod Recording
pub mod RecordBytes
pub mod Taking
pub mod Read
pub mod Accepting
