use Rattle.std.proofs.lemmas.Grind.{common_steps}
use Rattle.std.proofs.Common.{◌≡◌, map, drop, Result, Ok, refl, ap, ◌∙◌, arith, rules}
use Rattle.tmem_fault.specs.declared.fault.Fault.{Fault}
use Rattle.tmem_effect.proofs.Laws.{length-without_name-le}
use Rattle.tmem_tree.specs.Run.{register}
use Rattle.tmem_tentative.specs.Eval.{eval_answered}
use Rattle.tmem_tentative.specs.Logs.{run_state_of}
use Rattle.tmem_tentative.specs.declared.flow.Flow.{Flow}
use Rattle.tmem_tentative.specs.declared.flow.Flow.TheVariants.{Normal, Retry, Leave}
use Rattle.tmem_tentative.proofs.EvalFits.{same_within, length-write, below_if, below_either}
use Rattle.tmem_tentative.proofs.walk.act.Goals as goal

-- a run that goes on, or retries, has not been left
ok_normal_stays : (P : Type 0) → ◌≡◌ {A = Result Flow Fault} (Ok Normal) (Ok Leave) → P
ok_normal_stays P is = let no : ⊥ = cc in absurd no

ok_retry_stays : (P : Type 0) → ◌≡◌ {A = Result Flow Fault} (Ok Retry) (Ok Leave) → P
ok_retry_stays P is = let no : ⊥ = cc in absurd no

pub call-requires-clause-given : goal.call-requires-clause-given
call-requires-clause-given g c = grind (arith, common_steps)

pub call-requires-clause-few : goal.call-requires-clause-few
call-requires-clause-few g c = grind (arith, common_steps)

pub bounds-log-reg : goal.bounds-log-reg
bounds-log-reg g c = below_if _ _ (rw c.in-Put.is at c.requires.may.registers)

pub bounds-log-reg-in-Write : goal.bounds-log-reg-in-Write
bounds-log-reg-in-Write g c = below_if _ _ (rw c.in-Write.is at c.requires.may.registers)

pub read-requires : goal.read-requires
read-requires g c = below_if _ _ (rw c.in-Read.is at c.requires.may.registers)

pub put-requires : goal.put-requires
put-requires g c none = omega (arith, rw c.in-Write.is at c.requires.may.writes)

pub retire-requires : goal.retire-requires
retire-requires g c new = omega (arith, rw c.in-Retire.is at c.requires.may.retires)

pub call-requires-clause-there : goal.call-requires-clause-there
call-requires-clause-there g c = below_if _ _ (rw c.in-Step.is at c.requires.may.steps.there)

pub call-requires-clause-out : goal.call-requires-clause-out
call-requires-clause-out g c = below_either _ _ _ (rw c.in-Step.is at c.requires.may.registers)

pub returns-in-Skip : goal.returns-in-Skip
returns-in-Skip g c = record {
  room = same_within _ _;
  names = same_within _ _;
  retired = same_within _ _;
  flow = λ m footprint stated of. search rules;
  leaves = ok_normal_stays _;
  fault = tt;
}

pub returns-in-Put : goal.returns-in-Put
returns-in-Put g c = record {
  room = same_within _ _;
  names = same_within _ _;
  retired = same_within _ _;
  flow = λ m footprint stated of. search rules;
  leaves = ok_normal_stays _;
  fault = tt;
}

pub returns-in-Read : goal.returns-in-Read
returns-in-Read g c = record {
  room = rw c.read.ensures.effect (same_within _ _);
  names = rw c.read.ensures.effect (same_within _ _);
  retired = rw c.read.ensures.effect (same_within _ _);
  flow = λ m footprint stated of. rw c.in-Read.is (c.read.ensures.flow _ _);
  leaves = λ is. absurd (c.read.ensures.leaves_none is);
  fault = c.read.ensures.fault;
}

pub returns-in-Write : goal.returns-in-Write
returns-in-Write g c = record {
  room = rw (c.put.ensures, c.in-Write.is) (length-write _ _ _);
  names = same_within _ _;
  retired = same_within _ _;
  flow = λ m footprint stated of. search rules;
  leaves = ok_normal_stays _;
  fault = tt;
}

pub returns-in-Step : goal.returns-in-Step
returns-in-Step g c = record {
  room = rw c.call.ensures.effect (same_within _ _);
  names = rw c.call.ensures.effect (same_within _ _);
  retired = rw c.call.ensures.effect (same_within _ _);
  flow = λ m footprint stated of. rw c.in-Step.is (c.call.ensures.flow m stated _ _ ∙ ap (λ items. eval_answered (m c.in-Step.index (map (register c.args.log.now.registers) items)) (run_state_of c.args.log.now (drop c.args.tests.now.used c.args.given.now.answers.now)) c.in-Step.out) c.deref.ensures.value);
  leaves = search rules;
  fault = tt;
}

pub returns-in-Retry : goal.returns-in-Retry
returns-in-Retry g c = record {
  room = same_within _ _;
  names = same_within _ _;
  retired = same_within _ _;
  flow = λ m footprint stated of. rw c.in-Retry.is refl;
  leaves = ok_retry_stays _;
  fault = tt;
}

pub returns-in-Abort : goal.returns-in-Abort
returns-in-Abort g c = record {
  room = same_within _ _;
  names = same_within _ _;
  retired = same_within _ _;
  flow = λ m footprint stated of. rw c.in-Abort.is refl;
  leaves = λ is. tt;
  fault = tt;
}

pub returns-in-Check : goal.returns-in-Check
returns-in-Check g c = record {
  room = rw c.check.ensures.writes (same_within _ _);
  names = rw c.in-Check.is c.check.ensures.names;
  retired = rw c.in-Check.is (omega (arith, c.check.ensures.retired));
  flow = λ m footprint stated of. search rules;
  leaves = c.check.ensures.leaves;
  fault = c.check.ensures.fault;
}

pub returns-in-Retire : goal.returns-in-Retire
returns-in-Retire g c = record {
  room = rw c.retire.ensures.writes (same_within _ _);
  names = grind (arith, length-without_name-le);
  retired = grind (arith, common_steps);
  flow = λ m footprint stated of. search rules;
  leaves = ok_normal_stays _;
  fault = tt;
}
