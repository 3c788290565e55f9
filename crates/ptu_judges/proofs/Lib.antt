pub mod Holding
pub mod Shifting
pub mod Stocks
