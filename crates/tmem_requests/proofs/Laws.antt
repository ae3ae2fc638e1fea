-- The laws of this crate that the crates above rest on.

-- each request that a line is has the same id, and can be made of the same stores
pub use Rattle.tmem_requests.proofs.OneReading.{one_id, fits_too}
-- what is told of a line that cannot be asked of a store is true
pub use Rattle.tmem_requests.proofs.Reasoned.{reason_of_value, reason_of_misfit}
