pub mod Judged
pub mod Blocks
pub mod Headers
pub mod SheetOf
pub mod Written
pub mod Words
pub mod RoundTrip
