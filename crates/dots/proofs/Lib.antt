pub mod LeadingSteps
pub mod AlongSteps
pub mod WalkSteps
pub mod ListSteps
