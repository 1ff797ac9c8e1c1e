pub mod DemandKept
pub mod DemandOnM1
