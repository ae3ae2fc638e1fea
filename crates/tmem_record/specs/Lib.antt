pub mod Layout
pub mod Onto
pub mod Spelling
pub mod Stale
pub mod StandsAt
