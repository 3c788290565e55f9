pub mod Kind
pub mod Time
pub mod Log
pub mod Counts
pub mod Limits
pub mod Number
pub mod Client
pub mod Samples
