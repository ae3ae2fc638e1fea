use Rattle.std.proofs.Common.{◌≡◌, ℕ, ℤ, map, take}
use Rattle.std.specs.Map.{keys_of}
use Rattle.tmem_serve.proofs.looking.paired.Given as goal

-- the pairs so far
abbrev pub invariant-loop-at : goal.invariant-loop-at
invariant-loop-at l = record {
  vars : keys_of l.pairs.items ≡ take l.at l.vars;
  values : map (λ (pair : ℕ × ℤ). pair.1) l.pairs.items ≡ take l.at l.values;
}
