pub mod Divisors
pub mod Signs
