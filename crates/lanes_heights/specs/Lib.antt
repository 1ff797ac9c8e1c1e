pub mod Heights
pub mod HeightAcross
