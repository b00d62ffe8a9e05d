pub mod Tokens
pub mod OneMore
pub mod KindsPut
pub mod Floats
pub mod Grown
pub mod TokensMakeLine
pub mod SentText
pub mod Shallow
