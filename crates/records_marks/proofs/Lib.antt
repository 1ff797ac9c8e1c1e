pub mod CoverLaws
