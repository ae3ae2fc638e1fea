use Rattle.std.proofs.Common.{◌≡◌, map, take}
use Rattle.serde_json.specs.View.{view}
use Rattle.tmem_shape.specs.Shapes.{AreTerms, terms_form}
use Rattle.tmem_shape.proofs.terms.terms_of.Given as goal

abbrev pub invariant-loop-i : goal.invariant-loop-i
invariant-loop-i l = record {
  read : map view (take l.i l.items) ≡ terms_form l.footprint.items l.weights.items;
  fits : AreTerms l.vars l.footprint.items l.weights.items;
}
