pub mod Answers
pub mod Lines
pub mod Sums
pub mod Texts
