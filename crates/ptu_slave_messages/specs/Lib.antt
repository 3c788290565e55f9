pub mod Sending
pub mod Reception
pub mod Heard
pub mod Examples
pub mod Node
