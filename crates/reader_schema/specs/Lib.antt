pub mod Tables
pub mod Schema
pub mod Kinds
