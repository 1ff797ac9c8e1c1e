pub mod Case
pub mod CallNumbers
