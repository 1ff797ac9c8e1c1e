pub mod TableLaws
pub mod TestLaws
pub mod RangeLaws
