pub mod Words
pub mod Case
