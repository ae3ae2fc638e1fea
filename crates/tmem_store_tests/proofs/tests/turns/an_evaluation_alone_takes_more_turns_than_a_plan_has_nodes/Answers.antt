use Rattle.std.proofs.Common.{true, refl}
use borrow.Pointer.Called.{made_tells}
use Rattle.tmem_store_tests.proofs.tests.turns.an_evaluation_alone_takes_more_turns_than_a_plan_has_nodes.OwnLists.{own-1, at-1-1}
use Rattle.tmem_store_tests.proofs.tests.turns.an_evaluation_alone_takes_more_turns_than_a_plan_has_nodes.Goals as goal

pub new-requires-2-clause-stated : goal.new-requires-2-clause-stated
new-requires-2-clause-stated g c = ∣ (λ values. true, λ values answer n post. made_tells own-1 (own-1.entry at-1-1) at-1-1 refl c.into_dyn_box.ensures.1 (values, tt) answer post) ∣₁
