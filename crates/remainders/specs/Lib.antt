pub mod Moduli
pub mod Remainders
pub mod RestValues
