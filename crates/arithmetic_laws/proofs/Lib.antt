pub mod SineLaws
pub mod SineExamples
