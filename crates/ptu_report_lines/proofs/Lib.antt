pub mod Spaced
pub mod Sendings
