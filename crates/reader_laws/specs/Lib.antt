pub mod Samples
pub mod Lines
