pub mod Root
pub mod RootSteps
pub mod Narrow
