pub mod Spelling
pub mod Telling
pub mod Longest
