mod Leaves
mod Present
mod Refusals
mod Room
mod Seated
mod Taken
mod Written
