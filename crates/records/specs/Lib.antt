pub mod Active
pub mod Layout
pub mod Roads
