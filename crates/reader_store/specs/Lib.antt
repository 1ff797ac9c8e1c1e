pub mod Layout
pub mod Progress
pub mod Parents
pub mod Keep
