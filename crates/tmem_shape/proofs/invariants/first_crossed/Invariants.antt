use Rattle.std.proofs.Common.{All, take}
use Rattle.tmem_shape.specs.Shapes.{CanHold}
use Rattle.tmem_shape.proofs.invariants.first_crossed.Given as goal

abbrev pub invariant-loop-i : goal.invariant-loop-i
invariant-loop-i l = All CanHold (take l.i l.invariants)
