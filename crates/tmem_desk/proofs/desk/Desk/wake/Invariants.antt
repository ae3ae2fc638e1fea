use Rattle.std.proofs.Common.{ℕ}
use Rattle.tmem_desk.specs.Asking.{store}
use Rattle.tmem_desk.specs.Held.{desk_view}
use Rattle.tmem_desk.specs.Serving.{Round}
use Rattle.tmem_desk.specs.Steps.{Repeats}
use Rattle.tmem_desk.proofs.desk.Desk.wake.Given as goal

-- the rounds so far
abbrev pub invariant-loop : goal.invariant-loop
invariant-loop g l = (rounds : ℕ) × Repeats (Round (store g.N.Naming.name.start g.N.StoreNaming.opening g.N.ProgramNaming.program g.N.ServedNaming.arities g.N.ServedNaming.always)) rounds (desk_view l.fn.self) (desk_view l.self)
