pub mod Calls
pub mod Fills
pub mod Hull
pub mod Laws
pub mod Unsynced
pub mod Past
pub mod Ranges
pub mod Writing
