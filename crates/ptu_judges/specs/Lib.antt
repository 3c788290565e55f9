pub mod Held
pub mod Shifting
pub mod Boxes
pub mod Calls
