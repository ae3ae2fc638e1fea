pub mod Laws
mod Listing
mod Opening
mod Entries
mod Showing
mod Stored
mod Stores
