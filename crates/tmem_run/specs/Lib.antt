pub mod Builtin
pub mod Chains
pub mod Counted
pub mod Kept
pub mod Printed
pub mod Stored
