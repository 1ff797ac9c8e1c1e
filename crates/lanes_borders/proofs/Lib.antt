pub mod BorderSteps
pub mod Outward
pub mod BorderLaws
