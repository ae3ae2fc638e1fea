mod ArrayForms
mod Distinct
pub mod Laws
mod Levels
mod Shown
mod Sizes
