use Rattle.std.proofs.Common.{◌≡◌, ◌++◌, ℕ, List, map, take}
use Rattle.tmem_effect.specs.Names.{has_name}
use Rattle.tmem_seats.specs.Histories.{state_after_history}
use Rattle.tmem_front.proofs.values.push_registered.Given as goal

-- what the names so far are told was pushed
abbrev pub invariant-loop-name : goal.invariant-loop-name
invariant-loop-name g l =
    l.has.items ≡ l.fn.has.items ++ map (λ (name : List ℕ). has_name (state_after_history g.N.StoreNaming.opening l.fn.core.committed).names name) (take l.name-index l.fn.names)
