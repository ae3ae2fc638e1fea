pub mod Errors
pub mod Keys
pub mod Shapes
pub mod Words
