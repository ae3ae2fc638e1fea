use Rattle.std.proofs.Common.{◌≡◌, ℕ, get_or, length, map, take}
use Rattle.tmem_invariants.specs.Indices.{IsTouching}
use Rattle.tmem_tables.proofs.by_variable.indices_by_variable.Given as goal

abbrev pub invariant-loop-index : goal.invariant-loop-index
invariant-loop-index g l = record {
  long : length l.by_variable.items ≡ l.vars;
  touching : (var : ℕ) → IsTouching (take l.index (map g.E.TableEntry.footprint l.entries)) var (get_or l.by_variable.items var 0);
}
