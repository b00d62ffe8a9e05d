pub mod RequestByTwoCalls
