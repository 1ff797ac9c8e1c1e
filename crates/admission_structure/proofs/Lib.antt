pub mod StructureLaws
pub mod RangeLaws
