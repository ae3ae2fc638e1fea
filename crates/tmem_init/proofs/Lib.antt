mod Begun
mod Whole
