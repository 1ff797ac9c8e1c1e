pub mod Hex
pub mod Digits
