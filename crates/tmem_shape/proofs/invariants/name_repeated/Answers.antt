use Rattle.std.proofs.Common.{bytes_eq, map, sym, ap, ◌∙◌}
use Rattle.std.specs.List.{list_any}
use Rattle.std.proofs.lemmas.List.{length-map, take-map}
use Rattle.std.proofs.lemmas.Slice.Eq.{bytes_eq-Decides}
use Rattle.tmem_tables.specs.declared.linear.Linear.{Linear}
use Rattle.std.proofs.lemmas.Option.{get_or_from_slice_get, slice_get_within}
use Rattle.tmem_shape.proofs.First.{distinct_broken}
use Rattle.tmem_forms.proofs.Laws.{distinct_more, distinct_whole, not_distinct, shown_at}
use Rattle.tmem_shape.proofs.invariants.name_repeated.Goals as goal

pub returns-then-is_named-clause-repeated : goal.returns-then-is_named-clause-repeated
returns-then-is_named-clause-repeated c = λ distinct.
    let linears = c.args.invariants.now in
    let linear = c.index-invariants-i.result in
    let at = shown_at linears (λ (l : Linear). l.name) c.loop-i.i linear c.loop-i-test.true c.index-invariants-i.is in
    let before = ap (list_any (λ n. bytes_eq n linear.name)) (take-map (λ (l : Linear). l.name) c.loop-i.i linears) in
    not_distinct bytes_eq bytes_eq-Decides (map (λ (l : Linear). l.name) linears) c.loop-i.i linear.name at (before ∙ sym c.is_named.ensures ∙ c.if-is_named.true) distinct

pub returns-then-is_named-clause-first : goal.returns-then-is_named-clause-first
returns-then-is_named-clause-first c =
    let linears = c.args.invariants.now in
    let linear = c.index-invariants-i.result in
    let names = map (λ (l : Linear). l.name) linears in
    let at = shown_at linears (λ (l : Linear). l.name) c.loop-i.i linear c.loop-i-test.true c.index-invariants-i.is in
    let before = ap (list_any (λ n. bytes_eq n linear.name)) (take-map (λ (l : Linear). l.name) c.loop-i.i linears) in
    distinct_broken names c.loop-i.i linear.name (slice_get_within names c.loop-i.i linear.name at) (sym (get_or_from_slice_get names c.loop-i.i linear.name linear.name at))
    bytes_eq bytes_eq-Decides c.loop-i.invariant (before ∙ sym c.is_named.ensures ∙ c.if-is_named.true)

pub loop-i-preserved : goal.loop-i-preserved
loop-i-preserved c =
    let linears = c.args.invariants.now in
    let linear = c.index-invariants-i.result in
    let at = shown_at linears (λ (l : Linear). l.name) c.loop-i.i linear c.loop-i-test.true c.index-invariants-i.is in
    let before = ap (list_any (λ n. bytes_eq n linear.name)) (take-map (λ (l : Linear). l.name) c.loop-i.i linears) in
    distinct_more bytes_eq bytes_eq-Decides (map (λ (l : Linear). l.name) linears) c.loop-i.i linear.name at c.loop-i.invariant (before ∙ sym c.is_named.ensures ∙ c.if-is_named.false)

pub returns-clause-repeated : goal.returns-clause-repeated
returns-clause-repeated c =
    distinct_whole (map (λ (l : Linear). l.name) c.args.invariants.now) c.loop-i.i (simp length-map c.loop-i-test.false) c.loop-i.invariant
