pub mod CountedEvents
