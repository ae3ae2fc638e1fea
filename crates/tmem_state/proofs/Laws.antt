-- The laws of this crate's definitions that the crates above rest on.

-- how long a record is
pub use Rattle.tmem_state.proofs.BatchLaws.{record_length-le}
