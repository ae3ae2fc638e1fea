use Rattle.std.proofs.Common.{◌≡◌, ℕ, Bool, List, map, take}
use Rattle.std.specs.Prelude.{filter}
use Rattle.tmem_serve.proofs.looking.registered.Given as goal

-- the names so far
abbrev pub invariant-loop-at : goal.invariant-loop-at
invariant-loop-at l = (p : List ℕ → Bool) → l.has ≡ map p l.names → l.all.items ≡ filter p (take l.at l.names)
