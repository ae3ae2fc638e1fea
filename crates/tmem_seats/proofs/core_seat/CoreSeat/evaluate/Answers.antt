use Rattle.std.proofs.Common.{ℤ, Some, length, ap, sym, ◌∙◌, subst, rules, w64}
use Rattle.std.proofs.Math.Facts.{to_z-of_z}
use Rattle.std.proofs.lemmas.Result.{err_from_is_err_and}
use Rattle.tmem_core.specs.SettleAnswer.{has_changed}
use Rattle.tmem_tentative.specs.Cursors.{Answered, outcome_of, probe_of, given, answers}
use Rattle.tmem_tentative.specs.Fits.{IsWithinVariables, IsNamed, IsFilled}
use Rattle.tmem_tentative.specs.Right.{IsOutcome}
use Rattle.tmem_seats.specs.Histories.{state_after_history}
use Rattle.tmem_tree.proofs.Laws.{footprint_in-AreMeant}
use Rattle.tmem_seats.proofs.Present.{present_more}
use Rattle.tmem_seats.proofs.core_seat.CoreSeat.evaluate.Goals as goal

pub loop-init : goal.loop-init
loop-init g c = record {
  stands = λ m stated. c.in_ok-restart.ensures.stands m;
  at = λ m stated. c.in_ok-restart.ensures.at m g.N.ProgramNaming.program.tests;
  present = ap (λ l. has_changed (state_after_history g.N.StoreNaming.opening c.args.self.now.committed) l) c.in_ok-restart.ensures.given;
}

pub peek-value-requires : goal.peek-value-requires
peek-value-requires g c =
    subst (λ p. IsWithinVariables (length g.N.StoreNaming.opening.values) (outcome_of c.advance.new.self p)) c.in-Need.is (c.in_ok-var.ensures.within (length g.N.StoreNaming.opening.values) c.requires.variables)

pub loop-preserved-in-Need : goal.loop-preserved-in-Need
loop-preserved-in-Need g c = record {
  stands = λ m stated. c.give.ensures.stands m c.args.plan.now (c.advance.ensures.stands m stated);
  at = λ m stated. c.give.ensures.at m g.N.ProgramNaming.program.tests c.args.plan.now.tree (c.advance.ensures.at m g.N.ProgramNaming.program.tests stated c.requires.signatures (c.loop.invariant.at m stated));
  present =
      let s = state_after_history g.N.StoreNaming.opening c.args.self.now.committed in
      let fresh = ap (λ l. has_changed s l) c.advance.ensures.given ∙ c.loop.invariant.present in
      ap (λ l. has_changed s l) c.give.ensures.given ∙ present_more s _ _ _ fresh
      (c.peek-value.ensures.value ∙ ap (λ (n : ℤ). Some n) (sym (to_z-of_z {w = w64} {z = c.peek-value.result} (search (rules, c.peek-value.type_inv)))));
}

pub probe-held-requires : goal.probe-held-requires
probe-held-requires g c =
    let program = g.N.ProgramNaming.program in
    let signatures = c.args.plan.now.signatures in
    let filled = subst (λ p. IsFilled signatures (outcome_of c.advance.new.self p)) c.in-Probe.is c.in_ok-var.ensures.filled in
    record {
      named = rw c.probe.ensures (subst (λ p. IsNamed program.names (outcome_of c.advance.new.self p)) c.in-Probe.is (c.in_ok-var.ensures.named program.names c.requires.names));
      filled = rw c.probe.ensures (filled.1 ∙ ap length (footprint_in-AreMeant program.tests signatures (probe_of c.advance.new.self).name c.requires.signatures filled.0));
    }

pub loop-preserved : goal.loop-preserved
loop-preserved g c =
    let tests = g.N.ProgramNaming.program.tests in
    record {
      stands = λ m stated. c.answer.ensures.stands m c.args.plan.now (c.advance.ensures.stands m stated);
      at = λ m stated. c.answer.ensures.at m tests c.args.plan.now.tree (c.advance.ensures.at m tests stated c.requires.signatures (c.loop.invariant.at m stated)) (c.probe-held.ensures ∙ ap (λ p. tests.test p.name p.values) c.probe.ensures);
      present = ap (λ l. has_changed (state_after_history g.N.StoreNaming.opening c.args.self.now.committed) l) (c.answer.ensures.given ∙ c.advance.ensures.given) ∙ c.loop.invariant.present;
    }

pub give-requires : goal.give-requires
give-requires g c = subst (λ p. Answered c.advance.new.self p) c.in-Need.is c.in_ok-var.ensures.answered

pub probe-requires : goal.probe-requires
probe-requires g c = subst (λ p. Answered c.advance.new.self p) c.in-Probe.is c.in_ok-var.ensures.answered

pub answer-requires : goal.answer-requires
answer-requires g c = subst (λ p. Answered c.advance.new.self p) c.in-Probe.is c.in_ok-var.ensures.answered

pub advance-requires-clause-stands : goal.advance-requires-clause-stands
advance-requires-clause-stands g c = c.loop.invariant.stands

pub returns-in-Ended : goal.returns-in-Ended
returns-in-Ended g c =
    let opening = g.N.StoreNaming.opening in
    let program = g.N.ProgramNaming.program in
    let self = c.advance.new.self in
    record {
      ended = subst (λ p. Answered self p) c.in-Ended.is c.in_ok-var.ensures.answered;
      right = λ m stated. (subst (λ p. IsOutcome m program.tests c.args.plan.now.tree (given self) (length (answers self)) (outcome_of self p)) c.in-Ended.is (c.in_ok-var.ensures.right m program.tests stated c.requires.signatures (c.loop.invariant.at m stated))).1;
      variables = subst (λ p. IsWithinVariables (length opening.values) (outcome_of self p)) c.in-Ended.is (c.in_ok-var.ensures.within (length opening.values) c.requires.variables);
      names = subst (λ p. IsNamed program.names (outcome_of self p)) c.in-Ended.is (c.in_ok-var.ensures.named program.names c.requires.names);
      present = ap (λ l. has_changed (state_after_history opening c.args.self.now.committed) l) c.advance.ensures.given ∙ c.loop.invariant.present;
      memory = tt;
    }

pub returns-in_err-restart : goal.returns-in_err-restart
returns-in_err-restart g c =
    let handed = err_from_is_err_and c.from_residual.result c.from_residual.ensures.1 in
    rw handed.1 (record { ended = tt; right = λ m stated. tt; variables = tt; names = tt; present = tt; memory = handed.2 ∙ c.in_err-restart.ensures.fault })

pub returns-in_err-var : goal.returns-in_err-var
returns-in_err-var g c =
    let handed = err_from_is_err_and c.from_residual-in_err-var.result c.from_residual-in_err-var.ensures.1 in
    rw handed.1 (record { ended = tt; right = λ m stated. tt; variables = tt; names = tt; present = tt; memory = handed.2 ∙ c.in_err-var.ensures.fault })
