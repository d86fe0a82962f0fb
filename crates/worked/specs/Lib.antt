pub mod Sheets
pub mod Worked
pub mod Agreed
