pub mod PoseLaws
pub mod LeadLaws
