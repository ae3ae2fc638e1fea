use Rattle.std.proofs.Common.{refl}
use borrow.Pointer.Called.{made_tells}
use Rattle.tmem_builtins.specs.Invariants.{has_no_negative}
use Rattle.tmem_bank.proofs.main.OwnLists.{own-1, at-1-1}
use Rattle.tmem_bank.proofs.main.Goals as goal

pub new-requires-3-clause-stated : goal.new-requires-3-clause-stated
new-requires-3-clause-stated g c = ∣ (has_no_negative, λ values answer n post. made_tells own-1 (own-1.entry at-1-1) at-1-1 refl c.into_dyn_box.ensures.1 (values, tt) answer post) ∣₁
