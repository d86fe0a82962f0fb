pub mod Terms
pub mod Rows
