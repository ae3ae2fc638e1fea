mod Added
mod Lines
mod Single
mod Summed
