use Rattle.std.proofs.Common.{◌≡◌, ◌++◌, ℕ, List, [], drop, sym, subst, ◌∙◌, ap, arith}
use Rattle.std.proofs.lemmas.List.{drop_all, length-drop}
use Rattle.tmem_lines.specs.Lines.{HoldsRestOf, IsUnbroken}
use Rattle.tmem_lines.specs.Views.{LinesView}
use Rattle.tmem_lines.proofs.Cutting.{unbroken_text, forgotten_text}
use Rattle.tmem_lines.proofs.lines.Lines.forget_a_long_one.Goals as goal

pub returns-then-is_too_long-clause-same : goal.returns-then-is_too_long-clause-same
returns-then-is_too_long-clause-same c text stands =
    let inside = c.self.inside in
    let held = subst (λ (v : LinesView). HoldsRestOf v text) (sym c.self.view_is) stands in
    let unbroken : IsUnbroken (drop inside.next inside.bytes.items) = subst (λ (v : LinesView). IsUnbroken v.rest) (sym c.self.view_is) c.requires in
    let bytes = inside.bytes.items in
    let none : drop c.len-self-inside.result bytes ≡ [] = drop_all c.len-self-inside.result bytes (omega (arith, c.len-self-inside.ensures, inside.bytes.ok.0)) in
    let so = forgotten_text inside.is_long (drop inside.next bytes) text unbroken (λ is. let l = c.is_too_long.ensures.long c.if-is_too_long.true is in omega (arith, l, c.len.ensures, inside.bytes.ok.0, length-drop inside.next bytes)) held in (
      unbroken_text inside.is_long (drop inside.next bytes) text unbroken held,
      (so.0, so.1 ∙ ap (λ (r : List ℕ). so.0 ++ r) (sym none), so.2),
    )
