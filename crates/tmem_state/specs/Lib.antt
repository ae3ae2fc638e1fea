pub mod Batch
pub mod Versions
