pub mod FloatTests
pub mod FiniteLaws
