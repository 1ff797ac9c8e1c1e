pub mod CubicTables
