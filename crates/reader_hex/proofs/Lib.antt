pub mod HexDigits
pub mod HexWritten
