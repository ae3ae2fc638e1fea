pub mod CodecReads
pub mod CodecWrites
pub mod Laws
pub mod NameSetReads
pub mod ReadOnto
pub mod SpellingLaws
pub mod Standing
pub mod Pieces
