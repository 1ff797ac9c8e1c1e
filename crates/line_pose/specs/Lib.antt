pub mod Poses
pub mod Bearings
