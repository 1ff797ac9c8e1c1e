pub mod Columns
pub mod Places
pub mod NamesLine
pub mod ValuesLine
