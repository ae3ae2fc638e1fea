use Rattle.tmem_builtins.specs.Invariants.{has_no_negative}
use Rattle.tmem_caller.proofs.serving.store.serve_under.Goals as goal

pub new-requires-2-clause-stated : goal.new-requires-2-clause-stated
new-requires-2-clause-stated g c = rw c.in_ok-vec.ensures.items (∣ (has_no_negative, c.requires.stated) ∣₁)
