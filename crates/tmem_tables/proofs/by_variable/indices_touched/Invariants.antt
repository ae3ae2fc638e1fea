use Rattle.std.proofs.Common.{◌≡◌, ℕ, ℤ, get_or, take}
use Rattle.std.specs.List.{list_any}
use Rattle.tmem_invariants.specs.Indices.{has_index}
use Rattle.tmem_tables.proofs.by_variable.indices_touched.Given as goal

abbrev pub invariant-loop-var : goal.invariant-loop-var
invariant-loop-var l =
    (index : ℕ) → has_index l.indices index ≡ list_any (λ (w : ℕ × ℤ). has_index (get_or l.by_variable w.0 0) index) (take l.var-index l.written)
