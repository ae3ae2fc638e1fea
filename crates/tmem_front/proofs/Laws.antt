-- The laws of this crate that the crates above rest on.

-- a front may be shared between threads
pub use Rattle.tmem_front.proofs.Sharing.{front_sync}
-- attempts that are made again until one is settled
pub use Rattle.tmem_front.proofs.Again.{knows_still, knows_more, settles_later, settles_at_last, knows_more_at_last}
