pub mod Due
pub mod Negotiation
pub mod Requester
