use Rattle.std.proofs.Common.{refl}
use borrow.Pointer.Called.{made_tells}
use Rattle.tmem_builtins.specs.Invariants.{is_not_negative}
use Rattle.tmem_caller.proofs.refusals.without.call_over.OwnLists.{own-1, at-1-1}
use Rattle.tmem_caller.proofs.refusals.without.call_over.Goals as goal

pub call_on_test-requires-clause-stated : goal.call_on_test-requires-clause-stated
call_on_test-requires-clause-stated g c = ∣ (is_not_negative, λ values answer n post. made_tells own-1 (own-1.entry at-1-1) at-1-1 refl c.into_dyn_box.ensures.1 (values, tt) answer post) ∣₁
