pub mod StripLaws
