pub mod TwoCalls
pub mod CountedEvents
pub mod GoingOnAfterTorn
pub mod TwoPiecesAsWhole
