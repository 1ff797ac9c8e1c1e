pub mod Meeting
pub mod Locating
