use Rattle.std.proofs.Common.{◌≡◌, false, ◌||◌, sym, ap, ◌∙◌}
use Rattle.std.proofs.lemmas.Bool.{false_from_ne_true}
use Rattle.tmem_invariants.specs.Indices.{has_index}
use Rattle.tmem_invariants.specs.TableNames.{has_name}
use Rattle.tmem_invariants.proofs.NameIndices.{stands_at-absent, stands_at-one}
use Rattle.tmem_invariants.proofs.IndexSets.{or_not}
use Rattle.tmem_invariants.proofs.named.with_name.Goals as goal

pub returns-in-Some : goal.returns-in-Some
returns-in-Some g c = λ index.
    let names = g.T.Invariants.names c.args.table.now in
    c.with_index.ensures index
    ∙ ap (λ b. has_index c.args.indices index || b) (sym (stands_at-one names (g.met.T.Invariants.distinct c.args.table.now) c.args.name.now c.in-Some.index c.in-Some.ensures.index index))

pub returns-in-None : goal.returns-in-None
returns-in-None g c = λ index.
    let names = g.T.Invariants.names c.args.table.now in
    let absent : has_name names c.args.name.now ≡ false = false_from_ne_true (has_name names c.args.name.now) (λ among. let there = c.in-None.ensures.there.1 among in cc) in
    sym (or_not (has_index c.args.indices index) _ (stands_at-absent names c.args.name.now absent index))
