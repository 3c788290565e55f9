mod Items
pub mod Moments
mod Handing
mod Exchanges
mod Taking
mod Stretching
mod Moving
mod Hearing
mod OneRound
mod Beginning
mod AllRounds
mod Controlled
mod Outcomes
pub mod OrderedRounds
