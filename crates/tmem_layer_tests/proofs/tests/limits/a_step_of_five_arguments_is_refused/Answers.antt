use Rattle.std.proofs.Common.{refl}
use borrow.Pointer.Called.{made_tells}
use Rattle.tmem_tree.specs.declared.step.StepAnswer.TheVariants.{Retry}
use Rattle.tmem_layer_tests.proofs.tests.limits.a_step_of_five_arguments_is_refused.OwnLists.{own-1, at-1-1}
use Rattle.tmem_layer_tests.proofs.tests.limits.a_step_of_five_arguments_is_refused.Goals as goal

pub new-requires-2-clause-stated : goal.new-requires-2-clause-stated
new-requires-2-clause-stated g c = ∣ ((λ args. Retry), λ args answer n post. made_tells own-1 (own-1.entry at-1-1) at-1-1 refl c.into_dyn_box.ensures.1 (args, tt) answer post) ∣₁
