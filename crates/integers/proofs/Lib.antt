pub mod Equations
pub mod Ring
pub mod RingInt
pub mod GcdLaws
pub mod Bezout
pub mod Sizes
pub mod Coprime
pub mod Primes
