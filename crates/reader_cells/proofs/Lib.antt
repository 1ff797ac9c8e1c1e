pub mod Inside
pub mod Digits
