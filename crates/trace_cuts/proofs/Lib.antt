pub mod ResetsInCopies
pub mod OneFrameCopied
pub mod WholeCuts
