use Rattle.std.proofs.Common.{sym, ◌∙◌}
use Rattle.std.proofs.lemmas.Bool.{false≢true}
use Rattle.tmem_shape.specs.Shapes.{CanHold}
use Rattle.tmem_shape.proofs.First.{all_broken}
use Rattle.tmem_shape.proofs.Kept.{all_up_to, all_at_end}
use Rattle.tmem_shape.proofs.invariants.first_crossed.Goals as goal

pub loop-i-preserved : goal.loop-i-preserved
loop-i-preserved c =
    all_up_to (λ linear. CanHold linear) c.args.invariants.now c.loop-i.i c.index-invariants-i.result c.loop-i-test.true c.index-invariants-i.is (c.can_hold.ensures.0 c.if-not-can_hold.false) c.loop-i.invariant

pub returns-clause-crossed : goal.returns-clause-crossed
returns-clause-crossed c = all_at_end (λ linear. CanHold linear) c.args.invariants.now c.loop-i.i c.loop-i-test.false c.loop-i.invariant

pub returns-then-not-can_hold-clause-first : goal.returns-then-not-can_hold-clause-first
returns-then-not-can_hold-clause-first c =
    all_broken c.args.invariants.now c.loop-i.i c.index-invariants-i.result c.loop-i-test.true c.index-invariants-i.is (λ linear. CanHold linear) c.loop-i.invariant
    (λ can. false≢true (sym c.if-not-can_hold.true ∙ c.can_hold.ensures.1 can))
