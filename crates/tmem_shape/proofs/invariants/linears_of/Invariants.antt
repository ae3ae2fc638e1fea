use Rattle.std.proofs.Common.{map, take}
use Rattle.std.specs.List.{AllZip}
use Rattle.serde_json.specs.View.{view}
use Rattle.tmem_shape.specs.Shapes.{IsInvariant}
use Rattle.tmem_shape.proofs.invariants.linears_of.Given as goal

abbrev pub invariant-loop-i : goal.invariant-loop-i
invariant-loop-i l = AllZip (IsInvariant l.vars) l.invariants.items (map view (take l.i l.items))
