mod Commands
mod Outcomes
mod Shaped
