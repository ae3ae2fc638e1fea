use Rattle.std.proofs.Common.{refl}
use borrow.Pointer.Called.{made_tells}
use Rattle.tmem_world_tests.specs.Programs.{is_last_not_negative}
use Rattle.tmem_world_tests.proofs.tests.world_turns.turns_over_eight.OwnLists.{own-1, at-1-1}
use Rattle.tmem_world_tests.proofs.tests.world_turns.turns_over_eight.Goals as goal

pub add-requires-clause-stated : goal.add-requires-clause-stated
add-requires-clause-stated c = ∣ (is_last_not_negative, λ values answer n post. made_tells own-1 (own-1.entry at-1-1) at-1-1 refl c.into_dyn_box.ensures.1 (values, tt) answer post) ∣₁
