pub mod Printing
pub mod PrintReads
pub mod Sample
