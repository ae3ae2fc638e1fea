mod Bytes
mod Copies
mod Refusals
