use Rattle.std.proofs.Common.{◌≡◌, ◌++◌, ℕ, List, drop, sym, subst, ◌∙◌, ap}
use Rattle.std.specs.Prelude.{MatchBool}
use Rattle.tmem_lines.specs.Lines.{HoldsRestOf, IsForgotten}
use Rattle.tmem_lines.specs.Views.{LinesView}
use Rattle.tmem_lines.proofs.Cutting.{longer_text}
use Rattle.tmem_lines.proofs.lines.Lines.add.Goals as goal

pub returns-clause-ok : goal.returns-clause-ok
returns-clause-ok c text stands =
    let inside = c.self.inside in
    let piece = c.args.piece.now in
    let held = subst (λ (v : LinesView). HoldsRestOf v text) (sym c.self.view_is) stands in
    let more = longer_text inside.is_long (drop inside.next inside.bytes.items) piece text held in
    let same : c.extend_from_slice.new.self.items ≡ drop inside.next inside.bytes.items ++ piece =
    c.in_ok-extend_from_slice.ensures.items ∙ ap (λ (r : List ℕ). r ++ piece) (c.drop.ensures.items ∙ c.drain.ensures.kept) in
    subst (λ (r : List ℕ). MatchBool inside.is_long ((before : List ℕ) × (text ++ piece ≡ before ++ r) × IsForgotten before) (text ++ piece ≡ r)) (sym same) more
