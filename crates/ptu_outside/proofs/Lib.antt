pub mod Putting
pub mod Told
pub mod Slots
pub mod Sure
pub mod Telling
pub mod HandsOver
pub mod Taken
