pub mod Along
pub mod Dots
pub mod Walks
