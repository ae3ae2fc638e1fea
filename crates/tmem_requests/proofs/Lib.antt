mod Asked
mod Each
pub mod Laws
mod Members
mod Misfits
mod Nodes
mod Numerals
mod OneReading
mod Puts
mod Reading
mod Reasoned
mod Retired
mod Same
mod Spelled
mod Unread
mod Written
mod Wrongs
