use Rattle.std.proofs.Common.{◌≡◌, None, refl, arith}
use Rattle.std.proofs.lemmas.List.Elements.{AllWithin-more_set}
use Rattle.tmem_world.specs.declared.attempt.WorldAttempt.{WorldAttempt}
use Rattle.tmem_world.proofs.world.clear.Goals as goal

pub loop-attempt-preserved : goal.loop-attempt-preserved
loop-attempt-preserved c = AllWithin-more_set c.loop-attempt.attempt-items c.loop-attempt.attempt-index _ (omega arith) (λ (attempt : WorldAttempt). attempt.plan ≡ None) c.loop-attempt.invariant refl
