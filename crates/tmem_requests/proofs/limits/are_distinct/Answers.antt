use Rattle.std.proofs.Common.{ℕ, ℤ, pos, get_or, nat_eq, refl, sym, ap, ◌∙◌}
use Rattle.std.specs.List.{list_any}
use Rattle.std.specs.Map.{keys_of}
use Rattle.std.proofs.lemmas.Bool.Decides.{Decides-eqb}
use Rattle.std.proofs.lemmas.List.{length-map, take-map}
use Rattle.tmem_forms.proofs.Laws.{distinct_more, distinct_whole, not_distinct, shown_at}
use Rattle.tmem_requests.proofs.Each.{read_at}
use Rattle.tmem_requests.proofs.limits.are_distinct.Goals as goal

pub returns-then-has_variable : goal.returns-then-has_variable
returns-then-has_variable c =
    let pair = get_or c.args.pairs.now c.loop-i.i (0, pos 0) in
    let at = shown_at c.args.pairs.now (λ (p : ℕ × ℤ). p.0) c.loop-i.i pair c.loop-i-test.true (read_at c.args.pairs.now c.loop-i.i (0, pos 0) c.loop-i-test.true) in
    let before = ap (list_any (λ k. nat_eq k pair.0)) (take-map (λ (p : ℕ × ℤ). p.0) c.loop-i.i c.args.pairs.now) in (
      λ no. absurd (cc),
      λ distinct. absurd (not_distinct nat_eq Decides-eqb (keys_of c.args.pairs.now) c.loop-i.i pair.0 at (before ∙ sym c.has_variable.ensures ∙ c.if-has_variable.true) distinct),
    )

pub loop-i-preserved : goal.loop-i-preserved
loop-i-preserved c =
    let pair = get_or c.args.pairs.now c.loop-i.i (0, pos 0) in
    let at = shown_at c.args.pairs.now (λ (p : ℕ × ℤ). p.0) c.loop-i.i pair c.loop-i-test.true (read_at c.args.pairs.now c.loop-i.i (0, pos 0) c.loop-i-test.true) in
    let before = ap (list_any (λ k. nat_eq k pair.0)) (take-map (λ (p : ℕ × ℤ). p.0) c.loop-i.i c.args.pairs.now) in
    distinct_more nat_eq Decides-eqb (keys_of c.args.pairs.now) c.loop-i.i pair.0 at c.loop-i.invariant (before ∙ sym c.has_variable.ensures ∙ c.if-has_variable.false)

pub returns : goal.returns
returns c = (
  λ yes. distinct_whole (keys_of c.args.pairs.now) c.loop-i.i (simp length-map c.loop-i-test.false) c.loop-i.invariant,
  λ distinct. refl,
)
