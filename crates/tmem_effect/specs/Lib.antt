pub mod Loggable
pub mod Names
pub mod Prefix
pub mod State
pub mod Writes
