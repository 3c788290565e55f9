pub mod Headers
pub mod Grandmaster
pub mod Slave
pub mod Target
