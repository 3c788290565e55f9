pub mod Masters
pub mod Choosing
pub mod Lasting
pub mod Watching
pub mod Changes
