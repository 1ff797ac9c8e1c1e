pub mod Patterns
pub mod Words
pub mod Case
