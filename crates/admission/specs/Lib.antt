pub mod Limits
pub mod Admission
