pub mod Refusals
pub mod Serving
