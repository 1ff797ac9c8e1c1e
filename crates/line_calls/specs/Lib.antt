pub mod SampleCall
pub mod PoseCall
