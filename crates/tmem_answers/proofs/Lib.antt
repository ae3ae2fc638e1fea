mod Listing
mod Registers
mod Texts
