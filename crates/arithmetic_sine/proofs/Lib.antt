pub mod FloorLaws
pub mod FloorCases
pub mod QuotientTable
pub mod Reduction
pub mod SineKernel
