pub mod BatchLaws
pub mod Laws
