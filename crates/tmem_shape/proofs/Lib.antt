mod First
mod Kept
mod Told
pub mod Arrays
pub mod Found
pub mod Linears
pub mod Named
pub mod Objects
pub mod Refusals
pub mod SumTerms
