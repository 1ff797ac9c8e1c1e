pub mod LaneSizes
pub mod HeightSizes
pub mod BorderSizes
