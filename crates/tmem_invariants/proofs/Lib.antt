pub mod Among
pub mod Laws
pub mod NameIndices
pub mod IndexSets
pub mod Scans
pub mod TouchedInvariants
