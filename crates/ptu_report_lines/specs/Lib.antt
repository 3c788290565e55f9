pub mod Statements
pub mod Words
pub mod Report
pub mod Sendings
