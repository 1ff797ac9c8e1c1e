pub mod AcrossAlike
pub mod OneTangentHolds
pub mod TangentExamples
