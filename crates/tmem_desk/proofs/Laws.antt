-- The laws of this crate that the crates above rest on.

-- errors that are handed on
pub use Rattle.tmem_desk.proofs.Losing.{handed, any_err}
