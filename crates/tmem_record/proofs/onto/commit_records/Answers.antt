use Rattle.std.proofs.Common.{◌<◌, ◌≤◌, ◌+◌, ◌^◌, ℕ, sym, ◌∙◌, subst, arith}
use Rattle.std.specs.Prelude.{All}
use Rattle.std.proofs.lemmas.Bool.{false≢true}
use Rattle.tmem_effect.specs.State.{State}
use Rattle.tmem_record.specs.Onto.{CommitsRecords}
use Rattle.tmem_record.proofs.CodecReads.{or_none}
use Rattle.tmem_record.proofs.ReadOnto.{none_yet, still_sized, one_committed, none_spelled, none_taken}
use Rattle.tmem_record.proofs.onto.commit_records.Goals as goal

pub loop-init : goal.loop-init
loop-init c = none_yet c.args.version c.args.vars c.args.state.now c.args.bytes.now c.requires.within

pub returns-in_err-next-clause-none : goal.returns-in_err-next-clause-none
returns-in_err-next-clause-none c =
    let few : c.args.vars ≤ 2 ^ 16 = omega (arith, c.ranges.vars) in
    or_none _ (none_spelled c.args.version c.args.vars c.args.state.now c.args.bytes.now c.loop.counter c.loop.rest.now c.loop.state c.loop.invariant c.args.count few c.loop-test.true c.in_err-next.ensures.none)

pub commit_one-requires : goal.commit_one-requires
commit_one-requires c =
    let same = still_sized c.args.version c.args.vars c.args.state.now c.args.bytes.now c.loop.counter c.loop.rest.now c.loop.state c.loop.invariant ∙ c.requires.sized in
    subst (λ (n : ℕ). All (λ w. w.0 < n) c.record_of.new.effect.writes) (sym same) c.in_ok-next.ensures.is_record.loggable.effect.within

pub returns-then-not-commit_one-clause-none : goal.returns-then-not-commit_one-clause-none
returns-then-not-commit_one-clause-none c =
    let few : c.args.vars ≤ 2 ^ 16 = omega (arith, c.ranges.vars) in
    none_taken c.args.version c.args.vars c.args.state.now c.args.bytes.now c.loop.counter c.loop.rest.now c.loop.state c.loop.invariant c.args.count few c.loop-test.true c.record_of.new.effect c.in_ok-next.next.now c.in_ok-next.ensures.is_record c.in_ok-next.ensures.found
    (λ within. false≢true (sym c.if-not-commit_one.true ∙ c.commit_one.ensures.committed.1 within))

pub loop-preserved : goal.loop-preserved
loop-preserved c =
    subst (λ (u : State). CommitsRecords c.args.version c.args.vars (c.loop.counter + 1) c.args.state.now c.args.bytes.now c.in_ok-next.next.now u) (sym c.if-not-commit_one.ensures.state)
    (one_committed c.args.version c.args.vars c.args.state.now c.args.bytes.now c.loop.counter c.loop.rest.now c.loop.state c.loop.invariant c.record_of.new.effect c.in_ok-next.next.now c.in_ok-next.ensures.is_record c.in_ok-next.ensures.found (c.commit_one.ensures.committed.0 c.if-not-commit_one.false))
