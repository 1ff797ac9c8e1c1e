pub mod SampleWriting
pub mod SampleCalls
