pub mod Fractions
pub mod RoadSizes
