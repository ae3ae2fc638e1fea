pub mod Disk
pub mod Failing
pub mod Moments
pub mod Power
pub mod Sim
pub mod SimParts
pub mod Start
