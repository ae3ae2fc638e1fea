use Rattle.tmem_builtins.specs.Invariants.{is_not_negative}
use Rattle.tmem_caller.proofs.refusals.opening.open_with.Goals as goal

pub new-requires-clause-stated : goal.new-requires-clause-stated
new-requires-clause-stated g c = rw c.in_ok-vec.ensures.items (∣ (is_not_negative, c.requires.stated) ∣₁)
