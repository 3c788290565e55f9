pub mod Messages
pub mod Answered
pub mod Row
pub mod Turn
pub mod Table
pub mod Lends
pub mod Queue
pub mod Fields
