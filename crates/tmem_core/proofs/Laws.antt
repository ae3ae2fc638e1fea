-- The laws of this crate's definitions that the crates above rest on.

-- serial orders
pub use Rattle.tmem_core.proofs.SerialLaws.{committed_of-one, state_after-committed, serial_state-push, serial_state-append, serial_state-fold, serial_effects-push, count-serial, length-serial_effects, count-committed, AreCommitted-push, length-values-serial}
-- the name that an answer tells
pub use Rattle.tmem_core.proofs.SettleAnswers.{TellsOneOf-answer}
-- a test that a table can be asked
pub use Rattle.tmem_core.proofs.Probed.{filled_by}
-- the limits after what is committed
pub use Rattle.tmem_core.proofs.Limits.{StaysWithin-taken}
-- a program that follows on another
pub use Rattle.tmem_core.proofs.Following.{sound_after, same_order}
