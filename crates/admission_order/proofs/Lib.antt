pub mod OrderLaws
pub mod NeighbourLaws
pub mod FallLaws
