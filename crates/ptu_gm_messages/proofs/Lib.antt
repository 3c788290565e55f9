pub mod Octets
pub mod Hearing
pub mod Placing
pub mod Gathering
