pub mod Field
pub mod Fraction
pub mod Remainder
