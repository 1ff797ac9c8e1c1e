pub mod Samples
pub mod Quarters
