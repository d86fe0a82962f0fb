pub mod FourDigits
