use Rattle.tmem_desk.specs.Asking.{store}
use Rattle.tmem_desk.specs.Held.{desk_view}
use Rattle.tmem_desk.specs.Serving.{TriesNext}
use Rattle.tmem_desk.specs.Steps.{Repeats}
use Rattle.tmem_desk.proofs.desk.Desk.try_each.Given as goal

-- so many were tried
abbrev pub invariant-loop-turn : goal.invariant-loop-turn
invariant-loop-turn g l = Repeats (TriesNext (store g.N.Naming.name.start g.N.StoreNaming.opening g.N.ProgramNaming.program g.N.ServedNaming.arities g.N.ServedNaming.always)) l._turn (desk_view l.fn.self) (desk_view l.self)
