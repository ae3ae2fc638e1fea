pub mod NamesLaws
pub mod NamesRemoved
pub mod PrefixLaws
pub mod StateLaws
pub mod Staying
pub mod WritesLaws
pub mod Placing
pub mod Laws
