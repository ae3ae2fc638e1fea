pub mod Errors
pub mod Lines
pub mod Scripts
pub mod Statuses
