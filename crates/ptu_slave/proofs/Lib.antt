pub mod Calling
pub mod Masters
pub mod Quiet
pub mod Entering
pub mod Stepping
pub mod Assessing
pub mod Happening
pub mod Signals
pub mod Sendings
pub mod Ticking
pub mod Stopping
pub mod Hearing
pub mod Ruled
pub mod Nodes
pub mod Staying
mod Selecting
mod Adding
mod Waiting
