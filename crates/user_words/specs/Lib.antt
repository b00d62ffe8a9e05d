pub mod Silence
pub mod Ticks
pub mod Tallies
pub mod Beats
pub mod Torn
pub mod Halves
