pub mod Answers
pub mod Daemons
pub mod Run
pub mod Waiting
pub mod CommandLine
pub mod Samples
