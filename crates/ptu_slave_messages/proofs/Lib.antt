pub mod Codes
pub mod Senders
