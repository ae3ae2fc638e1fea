use Rattle.std.proofs.Common.{◌||◌, ◌∷◌, [], sym, ap, ◌∙◌}
use Rattle.tmem_invariants.specs.Indices.{stands_at}
use Rattle.tmem_invariants.proofs.NameIndices.{stands_at-more, stands_at-none}
use Rattle.tmem_invariants.proofs.IndexSets.{has_index-zero}
use Rattle.tmem_invariants.proofs.named.indices_of.Goals as goal

pub loop-name-init : goal.loop-name-init
loop-name-init g c = λ index. has_index-zero index ∙ sym (stands_at-none (g.T.Invariants.names c.args.table.now) index)

pub loop-name-preserved : goal.loop-name-preserved
loop-name-preserved g c = λ index.
    let names = g.T.Invariants.names c.args.table.now in
    c.with_name-indices.ensures index
    ∙ ap (λ b. b || stands_at (c.name-item.result ∷ []) names index) (c.loop-name.invariant index)
    ∙ sym (stands_at-more c.args.names.now names index c.loop-name.name-index c.name-item.result c.loop-name-test.true c.name-item.is)
