pub mod Laws
mod Plans
mod Alike
mod Among
mod Numbered
mod Found
mod Good
mod Checked
mod Fewer
mod Known
mod Whole
mod Least
