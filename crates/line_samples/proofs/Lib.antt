pub mod SpiralLaws
pub mod SpiralQuarters
