pub mod Clients
pub mod Faults
pub mod Known
pub mod Live
pub mod Trail
