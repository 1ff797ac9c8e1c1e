pub mod ActiveLaws
pub mod FirstLaws
