pub mod Causes
pub mod Excesses
pub mod Flaws
pub mod Helps
pub mod Limits
pub mod Numbers
pub mod Told
