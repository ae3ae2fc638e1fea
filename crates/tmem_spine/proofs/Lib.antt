mod Prefixes
mod Owning
mod Keeps
mod Allowed
mod Noted
mod Numbers
