pub mod Agreement
pub mod WordSteps
