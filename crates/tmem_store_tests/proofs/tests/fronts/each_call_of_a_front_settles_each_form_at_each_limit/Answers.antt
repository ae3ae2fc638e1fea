use Rattle.std.proofs.Common.{refl}
use borrow.Pointer.Called.{made_tells}
use Rattle.tmem_builtins.specs.Invariants.{is_not_negative}
use Rattle.tmem_store_tests.proofs.tests.fronts.each_call_of_a_front_settles_each_form_at_each_limit.OwnLists.{own-1, at-1-1}
use Rattle.tmem_store_tests.proofs.tests.fronts.each_call_of_a_front_settles_each_form_at_each_limit.Goals as goal

pub new-requires-2-clause-stated : goal.new-requires-2-clause-stated
new-requires-2-clause-stated g c = ∣ (is_not_negative, λ values answer n post. made_tells own-1 (own-1.entry at-1-1) at-1-1 refl c.into_dyn_box.ensures.1 (values, tt) answer post) ∣₁
