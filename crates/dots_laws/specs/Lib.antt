pub mod NeverBack
pub mod DotsKept
pub mod DotsAnswered
