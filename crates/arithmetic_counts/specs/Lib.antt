pub mod Count
pub mod CountSizes
