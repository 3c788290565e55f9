pub mod Entered
pub mod Gates
pub mod Dues
pub mod Masters
pub mod Silence
pub mod Stops
pub mod Waiting
