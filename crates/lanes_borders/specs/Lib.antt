pub mod Borders
pub mod Sides
