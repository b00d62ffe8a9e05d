pub mod EscapedStrings
pub mod EscapedNumbers
pub mod EscapedText
pub mod EscapedSends
pub mod RefusedPages
pub mod Chains
pub mod Growing
pub mod Named
pub mod MoreStand
pub mod Counted
pub mod Files
pub mod Places
pub mod Numerals
pub mod Assembled
pub mod Told
pub mod Floats
pub mod KindsPut
mod Shallow
