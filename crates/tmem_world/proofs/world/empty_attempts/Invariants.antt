use Rattle.std.proofs.Common.{◌≡◌, None, length}
use Rattle.std.specs.Prelude.{All}
use Rattle.tmem_world.specs.declared.attempt.WorldAttempt.{WorldAttempt}
use Rattle.tmem_world.proofs.world.empty_attempts.Given as goal

abbrev pub invariant-loop : goal.invariant-loop
invariant-loop l = record {
  emptied : All (λ (attempt : WorldAttempt). attempt.plan ≡ None) l.attempts.items;
  len : length l.attempts.items ≡ l.counter;
}
