pub mod LateralLaws
