use Rattle.std.proofs.Common.{◌≡◌, ◌≤◌, ◌-◌, ◌++◌, ℕ, Bool, List, length, take, drop, sym, subst, ◌∙◌, ap, arith}
use Rattle.std.specs.Prelude.{MatchBool}
use Rattle.std.proofs.lemmas.List.{length-drop, take_rest}
use Rattle.tmem_lines.specs.Lines.{HoldsRestOf, IsForgotten}
use Rattle.tmem_lines.specs.Views.{LinesView}
use Rattle.tmem_lines.proofs.Cutting.{long_text, nothing_left}
use Rattle.tmem_lines.proofs.lines.Lines.cut_last.Goals as goal

pub returns-clause-line : goal.returns-clause-line
returns-clause-line c _ text stands =
    let inside = c.self.inside in
    let bytes = inside.bytes.items in
    let rest = drop inside.next bytes in
    let held = subst (λ (v : LinesView). HoldsRestOf v text) (sym c.self.view_is) stands in
    let short = c.is_too_long-is_long.ensures.short c.if-is_long.false in
    let is : text ≡ rest = subst (λ (b : Bool). MatchBool b ((before : List ℕ) × (text ≡ before ++ rest) × IsForgotten before) (text ≡ rest)) short.0 held in
    let all : c.len-self-inside.result ≡ length bytes = omega (arith, c.len-self-inside.ensures, inside.bytes.ok.0) in
    let long : length text ≡ length bytes - inside.next = ap length is ∙ length-drop inside.next bytes in
    let most : length text ≤ 65536 = omega (arith, long, short.1, c.len.ensures, inside.bytes.ok.0) in (
      is ∙ sym (ap (λ (n : ℕ). take (n - inside.next) rest) all ∙ take_rest bytes inside.next),
      most,
      λ none. c.if-left-eq0.false (omega (arith, ap length none, long, c.len.ensures, inside.bytes.ok.0)),
    )

pub returns-then-is_long-clause-long : goal.returns-then-is_long-clause-long
returns-then-is_long-clause-long c = λ _ text stands.
    let inside = c.self.inside in
    let rest = drop inside.next inside.bytes.items in
    let held = subst (λ (v : LinesView). HoldsRestOf v text) (sym c.self.view_is) stands in
    long_text inside.is_long rest text (λ is. let more = c.is_too_long-is_long.ensures.long c.if-is_long.true is in omega (arith, more, c.len.ensures, inside.bytes.ok.0, length-drop inside.next inside.bytes.items)) held

pub returns-then-is_long-clause-rest : goal.returns-then-is_long-clause-rest
returns-then-is_long-clause-rest c = nothing_left c.self.inside.bytes c.len-self-inside-2.result c.len-self-inside-2.ensures

pub returns-then-left-eq0-clause-rest : goal.returns-then-left-eq0-clause-rest
returns-then-left-eq0-clause-rest c = nothing_left c.self.inside.bytes c.len-self-inside-2.result c.len-self-inside-2.ensures

pub returns-clause-rest : goal.returns-clause-rest
returns-clause-rest c = nothing_left c.self.inside.bytes c.len-self-inside-2.result c.len-self-inside-2.ensures
