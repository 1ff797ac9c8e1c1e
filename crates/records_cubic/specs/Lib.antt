pub mod Cubics
