pub mod RowLaws
pub mod AdmissionLaws
