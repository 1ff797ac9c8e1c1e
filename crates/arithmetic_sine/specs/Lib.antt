pub mod Floor
pub mod Sine
