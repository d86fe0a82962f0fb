pub mod Fitting
pub mod Wide
pub mod Made
