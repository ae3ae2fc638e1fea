pub mod History
pub mod Notes
pub mod Rule
pub mod Seats
pub mod Steps
pub mod Views
