pub mod Lent
mod Telling
mod Sold
mod Idle
mod Happening
mod Commands
mod OutputLines
mod Receivers
mod Limits
mod Following
mod Deciding
mod Serving
pub mod Keeping
mod Poured
pub mod Promising
pub mod Apart
pub mod Places
pub mod Standing
mod Ported
mod Fresh
pub mod Whole
pub mod Refused
pub mod Alone
mod Taken
pub mod OnLiterals
