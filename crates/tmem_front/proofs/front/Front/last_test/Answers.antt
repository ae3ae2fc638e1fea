use Rattle.std.proofs.Common.{◌<◌, ℕ, length, ap, subst, ◌∙◌}
use Rattle.std.proofs.lemmas.Result.{err_from_is_err_and}
use Rattle.tmem_tentative.specs.Cursors.{Answered, outcome_of, probe_of}
use Rattle.tmem_tentative.specs.Fits.{IsWithinVariables, IsNamed, IsFilled}
use Rattle.tmem_tree.proofs.Laws.{footprint_in-AreMeant}
use Rattle.tmem_front.proofs.Refused.{some_filled}
use Rattle.tmem_front.proofs.front.Front.last_test.Goals as goal

pub peek-value-requires : goal.peek-value-requires
peek-value-requires g c =
    let front = c.args.self.now in
    let within = subst (λ p. IsWithinVariables front.vars (outcome_of c.advance.new.self p)) c.in-Need.is (c.in_ok-var.ensures.within front.vars c.requires.variables) in
    subst (λ (k : ℕ). c.in-Need.var < k) front.over within

pub probe-held-requires : goal.probe-held-requires
probe-held-requires g c =
    let program = g.N.ProgramNaming.program in
    let signatures = c.args.plan.now.signatures in
    let filled = subst (λ p. IsFilled signatures (outcome_of c.advance.new.self p)) c.in-Probe.is c.in_ok-var.ensures.filled in
    record {
      named = rw c.probe.ensures (subst (λ p. IsNamed program.names (outcome_of c.advance.new.self p)) c.in-Probe.is (c.in_ok-var.ensures.named program.names c.requires.names));
      filled = rw c.probe.ensures (filled.1 ∙ ap length (footprint_in-AreMeant program.tests signatures (probe_of c.advance.new.self).name c.requires.signatures filled.0));
    }

pub loop-preserved : goal.loop-preserved
loop-preserved g c =
    let signatures = c.args.plan.now.signatures in
    let footprint = g.N.ProgramNaming.program.tests.footprint in
    let filled = subst (λ p. IsFilled signatures (outcome_of c.advance.new.self p)) c.in-Probe.is c.in_ok-var.ensures.filled in
    let long = filled.1 ∙ ap length (footprint_in-AreMeant g.N.ProgramNaming.program.tests signatures (probe_of c.advance.new.self).name c.requires.signatures filled.0) in
    record {
      stands = λ m stated. c.answer.ensures.stands m c.args.plan.now (c.advance.ensures.stands m stated);
      filled = some_filled c.failed_values-failed.result c.probe-in-Probe.result.now.values c.probe-in-Probe.result.now.name c.args.name.now footprint c.failed_values-failed.ensures.values (rw c.probe-in-Probe.ensures long);
    }

pub advance-requires-clause-stands : goal.advance-requires-clause-stands
advance-requires-clause-stands g c = c.loop.invariant.stands

pub loop-preserved-in-Need : goal.loop-preserved-in-Need
loop-preserved-in-Need g c = record {
  stands = λ m stated. c.give.ensures.stands m c.args.plan.now (c.advance.ensures.stands m stated);
  filled = c.loop.invariant.filled;
}

pub give-requires : goal.give-requires
give-requires g c = subst (λ p. Answered c.advance.new.self p) c.in-Need.is c.in_ok-var.ensures.answered

pub probe-requires : goal.probe-requires
probe-requires g c = subst (λ p. Answered c.advance.new.self p) c.in-Probe.is c.in_ok-var.ensures.answered

pub probe-requires-in-Probe : goal.probe-requires-in-Probe
probe-requires-in-Probe g c = subst (λ p. Answered c.advance.new.self p) c.in-Probe.is c.in_ok-var.ensures.answered

pub answer-requires : goal.answer-requires
answer-requires g c = subst (λ p. Answered c.advance.new.self p) c.in-Probe.is c.in_ok-var.ensures.answered

pub returns-in-Ended : goal.returns-in-Ended
returns-in-Ended g c = record {
  ended = subst (λ p. Answered c.advance.new.self p) c.in-Ended.is c.in_ok-var.ensures.answered;
  filled = c.loop.invariant.filled;
  memory = tt;
}

pub returns-in_err-restart : goal.returns-in_err-restart
returns-in_err-restart g c =
    let handed = err_from_is_err_and c.from_residual.result c.from_residual.ensures.1 in
    rw handed.1 (record { ended = tt; filled = tt; memory = handed.2 ∙ c.in_err-restart.ensures.fault })

pub returns-in_err-var : goal.returns-in_err-var
returns-in_err-var g c =
    let handed = err_from_is_err_and c.from_residual-in_err-var.result c.from_residual-in_err-var.ensures.1 in
    rw handed.1 (record { ended = tt; filled = tt; memory = handed.2 ∙ c.in_err-var.ensures.fault })
