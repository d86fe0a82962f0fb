pub mod ByModulus
