pub mod NumeralIsRead
