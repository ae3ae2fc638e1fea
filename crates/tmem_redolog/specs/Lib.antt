pub mod Appends
pub mod Closes
pub mod Laws
pub mod Log
pub mod Room
pub mod Scans
