use Rattle.std.proofs.Common.{◌≡◌, ℕ, ℤ, Some, length, map, take}
use Rattle.tmem_seats.specs.Histories.{state_after_history}
use Rattle.tmem_seats.specs.Refusing.{end_value}
use Rattle.tmem_front.proofs.refusing.at_end.Given as goal

-- one for each variable so far, with the value that it has at the end
abbrev pub invariant-loop-var : goal.invariant-loop-var
invariant-loop-var g l = record {
  filled : length l.values ≡ l.var-index;
  values : map (λ (n : ℤ). Some n) l.values ≡ map (λ (var : ℕ). end_value (state_after_history g.N.StoreNaming.opening l.fn.core.committed).values l.fn.writes var) (take l.var-index l.fn.signature.footprint);
}
