pub mod Candidate
pub mod Choice
pub mod Selecting
pub mod Watched
pub mod WatchState
