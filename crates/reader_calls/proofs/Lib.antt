pub mod TakingCases
pub mod JobCases
pub mod Computed
pub mod Examples
pub mod ExampleM1
