pub mod LineSteps
pub mod CallSteps
