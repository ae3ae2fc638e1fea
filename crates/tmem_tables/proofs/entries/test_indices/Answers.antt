use Rattle.std.proofs.Common.{◌<◌, ◌≤◌, length, map, sym, ap, ◌∙◌, arith, rules}
use Rattle.std.proofs.lemmas.List.{length-map}
use Rattle.tmem_invariants.specs.Meanings.{holds}
use Rattle.tmem_invariants.specs.Indices.{has_index}
use Rattle.tmem_invariants.specs.Answers.{IsMeant}
use Rattle.tmem_invariants.proofs.Laws.{All_read, has_index-zero, slice_get-map_read}
use Rattle.tmem_tables.proofs.Tested.{tested-more, tested-here, tested-all}
use Rattle.tmem_tables.proofs.entries.test_indices.Goals as goal

pub returns-in_err-entry-clause-first : goal.returns-in_err-entry-clause-first
returns-in_err-entry-clause-first g c = λ m asked stated asks.
    let names = map g.E.TableEntry.name c.args.entries.now in
    let past : length c.args.entries.now ≤ c.lowest_index-index.result = search rules in
    rw c.from_residual.ensures (tested-all (holds m c.args.values.now) names c.args.indices c.loop-left.left (c.loop-left.invariant m stated) asked asks
    (λ index within. c.lowest_index-index.ensures.lowest index (omega (arith, past, within, length-map c.args.entries.now g.E.TableEntry.name))))

pub returns-then-not-is_true-clause-first : goal.returns-then-not-is_true-clause-first
returns-then-not-is_true-clause-first g c = λ m asked stated asks.
    let names = map g.E.TableEntry.name c.args.entries.now in
    let entry = c.in_ok-entry.entry.now in
    let within : c.lowest_index-index.result < length c.args.entries.now = search rules in
    let is = c.in_ok-entry.ensures.lookup.1 in
    let here = All_read c.args.entries.now (λ entry. IsMeant m (g.E.TableEntry.name entry) (g.E.TableEntry.footprint entry) (g.E.TableEntry.answers entry)) c.lowest_index-index.result entry within is stated in
    tested-here (holds m c.args.values.now) names c.args.indices c.loop-left.left (c.loop-left.invariant m stated) asked asks
    c.lowest_index-index.result (g.E.TableEntry.name entry) (slice_get-map_read c.args.entries.now g.E.TableEntry.name c.lowest_index-index.result entry within is)
    c.lowest_index-index.ensures.there c.lowest_index-index.ensures.lowest (sym (c.is_true.ensures m here) ∙ c.if-not-is_true.true)

pub loop-left-preserved : goal.loop-left-preserved
loop-left-preserved g c = λ m stated.
    let names = map g.E.TableEntry.name c.args.entries.now in
    let entry = c.in_ok-entry.entry.now in
    let within : c.lowest_index-index.result < length c.args.entries.now = search rules in
    let is = c.in_ok-entry.ensures.lookup.1 in
    let here = All_read c.args.entries.now (λ entry. IsMeant m (g.E.TableEntry.name entry) (g.E.TableEntry.footprint entry) (g.E.TableEntry.answers entry)) c.lowest_index-index.result entry within is stated in
    let at = slice_get-map_read c.args.entries.now g.E.TableEntry.name c.lowest_index-index.result entry within is in
    tested-more (holds m c.args.values.now) names c.args.indices c.loop-left.left (c.loop-left.invariant m stated) c.lowest_index-index.result c.without_index-left.result c.without_index-left.ensures.others
    (g.E.TableEntry.name entry) at (sym (c.is_true.ensures m here) ∙ c.if-not-is_true.false)

pub returns-clause-first : goal.returns-clause-first
returns-clause-first g c = λ m asked stated asks.
    let names = map g.E.TableEntry.name c.args.entries.now in
    tested-all (holds m c.args.values.now) names c.args.indices c.loop-left.left (c.loop-left.invariant m stated) asked asks
    (λ index within. ap (λ n. has_index n index) c.loop-left-test.false ∙ has_index-zero index)
