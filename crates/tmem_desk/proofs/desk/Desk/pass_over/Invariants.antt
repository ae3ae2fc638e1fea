use Rattle.std.proofs.Common.{ℕ, List}
use Rattle.tmem_lines.specs.Lines.{HoldsRestOf}
use Rattle.tmem_desk.specs.Asking.{store}
use Rattle.tmem_desk.specs.Held.{desk_view}
use Rattle.tmem_desk.proofs.Losing.{PassesSome}
use Rattle.tmem_desk.proofs.desk.Desk.pass_over.Given as goal

-- the lines so far were told of
abbrev pub invariant-loop : goal.invariant-loop
invariant-loop g l = (text : List ℕ) → HoldsRestOf l.fn.lines text → PassesSome (store g.N.Naming.name.start g.N.StoreNaming.opening g.N.ProgramNaming.program g.N.ServedNaming.arities g.N.ServedNaming.always) text l.lines (desk_view l.fn.self) (desk_view l.self)
