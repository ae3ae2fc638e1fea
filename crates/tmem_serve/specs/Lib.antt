pub mod Turns
pub mod Stores
