pub mod RowLaws
pub mod AdmitLaws
