pub mod Answered
pub mod Audited
pub mod Completed
pub mod DaemonRuns
pub mod Loaded
pub mod Matching
