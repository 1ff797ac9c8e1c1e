pub mod TrackLaws
