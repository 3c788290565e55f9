pub mod Verdicts
pub mod Shares
pub mod Failing
pub mod Histories
pub mod Rights
