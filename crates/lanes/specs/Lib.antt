pub mod Sides
pub mod Lateral
