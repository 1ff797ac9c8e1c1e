pub mod ScanLaws
pub mod CubicLaws
pub mod RoadLaws
