pub mod Standing
pub mod Noted
pub mod Doing
pub mod GrandmasterPorts
pub mod GrandmasterStatements
