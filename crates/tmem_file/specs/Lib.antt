pub mod Bytes
pub mod FileView
pub mod Held
pub mod Opening
pub mod Record
pub mod Recorded
