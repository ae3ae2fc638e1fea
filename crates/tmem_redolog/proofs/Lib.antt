pub mod Appended
pub mod Calls
pub mod Closing
pub mod Laws
pub mod Logs
pub mod OneLog
pub mod Replaying
pub mod Scanned
