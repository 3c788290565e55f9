pub mod Lines
pub mod Script
pub mod Words
pub mod Reading
pub mod Cut
pub mod Draft
pub mod Line
pub mod Cause
