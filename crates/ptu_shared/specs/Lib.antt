pub mod Seats
pub mod Answers
pub mod Delays
pub mod Opening
pub mod Blanks
pub mod Histories
pub mod Turning
