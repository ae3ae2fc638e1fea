pub mod Deciding
pub mod Flushing
pub mod Held
pub mod Histories
pub mod Refusing
pub mod Seats
pub mod Settling
