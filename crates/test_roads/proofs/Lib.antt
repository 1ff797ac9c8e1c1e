pub mod IdNumbers
pub mod Marks
