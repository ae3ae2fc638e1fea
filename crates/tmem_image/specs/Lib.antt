pub mod Framed
pub mod Image
pub mod Laws
pub mod Pages
pub mod Room
pub mod Spare
pub mod Spelling
