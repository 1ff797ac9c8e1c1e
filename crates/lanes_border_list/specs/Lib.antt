pub mod BorderList
