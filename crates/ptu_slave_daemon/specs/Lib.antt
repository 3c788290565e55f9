pub mod Opening
pub mod Happenings
pub mod Lines
pub mod Running
pub mod Served
pub mod Answers
