mod Logs
mod Fitting
mod Fields
pub mod OnLiterals
