use Rattle.std.proofs.Common.{◌≡◌, length, take, sym, ◌∙◌, ap, subst, arith}
use Rattle.tmem_effect.specs.State.{State, apply, IsWithin}
use Rattle.tmem_effect.proofs.Laws.{length-values-fold}
use Rattle.tmem_redolog.proofs.Laws.{fold_next, within_next, of_variables}
use Rattle.tmem_journal.proofs.committing.commit_all.Goals as goal

pub commit-requires-clause-within : goal.commit-requires-clause-within
commit-requires-clause-within c = λ k d below.
    let same : length c.loop-effect.state.values ≡ length c.args.state.now.values = ap (λ (s : State). length s.values) c.loop-effect.invariant ∙ length-values-fold c.args.state.now (take c.loop-effect.effect-index c.args.effects.now) in
    omega (arith, same, of_variables c.args.state.now c.args.effects.now c.loop-effect.effect-index c.effect-item.result c.loop-effect-test.true c.effect-item.is (length c.args.state.now.values) c.requires.variables k d below)

pub commit-requires-clause-countable : goal.commit-requires-clause-countable
commit-requires-clause-countable c =
    (subst (λ (s : State). IsWithin (apply s c.effect-item.result)) (sym c.loop-effect.invariant)
    (within_next c.args.state.now c.args.effects.now c.loop-effect.effect-index c.effect-item.result c.loop-effect-test.true c.effect-item.is c.requires.within)).count

pub commit-requires-clause-room : goal.commit-requires-clause-room
commit-requires-clause-room c =
    (subst (λ (s : State). IsWithin (apply s c.effect-item.result)) (sym c.loop-effect.invariant)
    (within_next c.args.state.now c.args.effects.now c.loop-effect.effect-index c.effect-item.result c.loop-effect-test.true c.effect-item.is c.requires.within)).names

pub loop-effect-preserved : goal.loop-effect-preserved
loop-effect-preserved c = c.commit.ensures ∙ ap (λ (s : State). apply s c.effect-item.result) c.loop-effect.invariant ∙ sym (fold_next c.args.state.now c.args.effects.now c.loop-effect.effect-index c.effect-item.result c.loop-effect-test.true c.effect-item.is)
