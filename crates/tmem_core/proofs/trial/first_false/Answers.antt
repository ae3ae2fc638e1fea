use Rattle.std.proofs.Common.{subst, sym, ◌∙◌}
use Rattle.tmem_effect.specs.Names.{without_names}
use Rattle.tmem_effect.specs.State.{written}
use Rattle.tmem_effect.proofs.Laws.{length-written}
use Rattle.tmem_invariants.specs.Indices.{AreIndicesOf}
use Rattle.tmem_invariants.proofs.Laws.{first_false-untouched}
use Rattle.tmem_core.proofs.Known.{AllHold-kept}
use Rattle.tmem_core.proofs.Trials.{differ, olds_within, state_back}
use Rattle.tmem_core.proofs.trial.first_false.Goals as goal

pub test_touched-index-requires : goal.test_touched-index-requires
test_touched-index-requires g c =
    let s = c.args.state.now in
    rw (c.values-2.ensures, c.overwrite.ensures, c.as_slice-writes.ensures.writes) (length-written s.values c.args.effect.now.writes ∙ sym c.requires.vars)

pub overwrite-requires-2 : goal.overwrite-requires-2
overwrite-requires-2 g c =
    rw (c.overwrite.ensures, c.save.ensures, c.values.ensures, c.as_slice-writes.ensures.writes) (olds_within c.args.state.now.values c.args.effect.now.writes c.requires.variables)

pub returns-clause-state : goal.returns-clause-state
returns-clause-state g c =
    rw (c.overwrite-2.ensures, c.overwrite.ensures, c.save.ensures, c.values.ensures, c.as_slice-writes.ensures.writes) (state_back c.args.state.now c.args.effect.now.writes c.requires.variables)

pub returns-clause-first : goal.returns-clause-first
returns-clause-first g c = λ m stated held.
    let s = c.args.state.now in
    let e = c.args.effect.now in
    let kept = without_names s.names e.retired in
    let all = rw (c.values-2.ensures, c.overwrite.ensures, c.as_slice-writes.ensures.writes) at (c.test_touched-index.ensures.all m kept e.names s.values stated c.requires.kept c.requires.proposed) in
    all (differ s.values e.writes) (AllHold-kept m s e s.values held)

pub returns-then-not-is_touched-clause-first : goal.returns-then-not-is_touched-clause-first
returns-then-not-is_touched-clause-first g c = λ m stated held.
    let s = c.args.state.now in
    let e = c.args.effect.now in
    let names = g.T.Invariants.names c.args.table.now in
    let kept = without_names s.names e.retired in
    let untouched = rw c.as_slice-writes.ensures.writes at (sym (c.is_touched.ensures m kept stated c.requires.kept) ∙ c.if-not-is_touched.true) in
    sym (first_false-untouched m names kept e.names e.writes s.values (written s.values e.writes) (differ s.values e.writes) (AllHold-kept m s e s.values held) (subst (AreIndicesOf e.names names) c.if-proposed-eq0.true c.requires.proposed) untouched)
