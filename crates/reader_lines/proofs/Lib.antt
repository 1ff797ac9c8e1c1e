pub mod PlaceLaws
pub mod Heads
pub mod Lines
mod Made
