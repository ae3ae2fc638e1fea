use Rattle.std.proofs.Common.{◌≡◌, ℕ, take}
use Rattle.tmem_invariants.specs.Indices.{has_index, stands_at}
use Rattle.tmem_invariants.proofs.named.indices_of.Given as goal

abbrev pub invariant-loop-name : goal.invariant-loop-name
invariant-loop-name g l =
    (index : ℕ) → has_index l.indices index ≡ stands_at (take l.name-index l.names) (g.T.Invariants.names l.table) index
