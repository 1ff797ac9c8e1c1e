pub mod MissLaws
pub mod BracketLaws
