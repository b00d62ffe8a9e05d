pub mod WaitingBytes
