pub mod Rules
pub mod Stops
pub mod Runs
pub mod Spans
pub mod Reported
pub mod Step
