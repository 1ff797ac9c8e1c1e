pub mod Sections
pub mod ReferenceLine
pub mod Points
pub mod Locating
pub mod MarksUnseen
pub mod TwoRoads
