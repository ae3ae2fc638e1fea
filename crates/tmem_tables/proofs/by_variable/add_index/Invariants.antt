use Rattle.std.proofs.Common.{◌≡◌, ℕ, ◌==◌, ◌||◌, ◌&&◌, get_or, take}
use Rattle.tmem_invariants.specs.Indices.{has_index, has_var}
use Rattle.tmem_tables.proofs.by_variable.add_index.Given as goal

abbrev pub invariant-loop-var : goal.invariant-loop-var
invariant-loop-var l =
    (var other : ℕ) → has_index (get_or l.by_variable var 0) other ≡ (has_index (get_or l.initial.by_variable var 0) other || (other == l.index && has_var (take l.var-index l.footprint) var))
