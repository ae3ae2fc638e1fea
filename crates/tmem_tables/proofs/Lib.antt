mod Judged
mod Shown
pub mod Sizes
mod Tested
pub mod Totals
mod Touching
