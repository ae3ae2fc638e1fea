pub mod Laws
pub mod Sharing
mod Again
mod Awaiting
mod Looks
mod Planned
mod Refused
mod Settled
mod Told
mod There
