pub mod Kept
pub mod Standing
pub mod Parts
pub mod Seen
pub mod SeenBy
pub mod Events
