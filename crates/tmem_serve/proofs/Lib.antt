mod Seen
mod Settled
mod Turning
