pub mod Items
pub mod Replies
pub mod Deciding
pub mod Samples
