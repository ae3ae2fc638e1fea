use Rattle.std.specs.Prelude.{◌≤◌, length}
use Rattle.tmem_desk.specs.Asking.{store}
use Rattle.tmem_desk.specs.Held.{desk_view}
use Rattle.tmem_serve.proofs.Turning.{HasServed}
use Rattle.tmem_serve.proofs.serving.serve_lines.Given as goal

-- some turns were served, and there is room for more
abbrev pub invariant-loop : goal.invariant-loop
invariant-loop g l = record {
  served : HasServed (store g.N.Naming.name.start g.N.StoreNaming.opening g.N.ProgramNaming.program g.N.ServedNaming.arities g.N.ServedNaming.always)
      (desk_view l.fn.desk) (desk_view l.desk) l.lines (g.I.Read.remaining l.fn.input) (g.I.Read.remaining l.input) (g.W.Write.contents l.fn.out) (g.W.Write.contents l.out);
  room : 1 ≤ length l.piece.items;
}
