use Rattle.std.proofs.Common.{◌≡◌, ◌++◌, ℤ, ℕ, Some, map, take, slice_get}
use Rattle.tmem_seats.specs.Histories.{state_after_history}
use Rattle.tmem_seats.proofs.core_seat.CoreSeat.peek_all.Given as goal

-- the values of the variables so far were pushed
abbrev pub invariant-loop-var : goal.invariant-loop-var
invariant-loop-var g l =
    map (λ (n : ℤ). Some n) l.values.items
    ≡ map (λ (n : ℤ). Some n) l.fn.values.items ++ map (λ (var : ℕ). slice_get (state_after_history g.N.StoreNaming.opening l.fn.self.committed).values var) (take l.var-index l.fn.vars)
