pub mod Distinct
pub mod Fault
pub mod Name
