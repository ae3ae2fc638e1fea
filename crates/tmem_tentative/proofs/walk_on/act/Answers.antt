use Rattle.std.proofs.lemmas.Grind.{common_steps}
use Rattle.std.proofs.Common.{◌≡◌, sym, ap, ◌∙◌, refl, map, arith, rules, option_to_list}
use Rattle.tmem_effect.proofs.Laws.{length-without_name-le}
use Rattle.tmem_tree.specs.Run.{register}
use Rattle.tmem_tree.specs.Visited.{Ask}
use Rattle.tmem_tree.specs.declared.tx.Tx.TheVariants as tx
use Rattle.tmem_tree.specs.declared.tx.Tx.TheVariants.{Step}
use Rattle.tmem_tentative.specs.declared.attempt.Attempt.{Attempt}
use Rattle.tmem_tentative.specs.declared.attempt.Ending.TheVariants as ending
use Rattle.tmem_tentative.specs.declared.flow.Flow.TheVariants.{Retry, Leave}
use Rattle.tmem_tentative.specs.Eval.{Leaving, Gives_up, eval_answered}
use Rattle.tmem_tentative.specs.Logs.{Went, Stopped, Gave_way, Left, out_of, run_state_of}
use Rattle.tmem_tentative.proofs.EvalFits.{same_within, length-write, below_if, below_either}
use Rattle.tmem_tentative.proofs.PlaceLeaves.{normal_stays, leaf_leads, read_leads, out_is_stopped}
use Rattle.tmem_tentative.proofs.walk_on.act.Goals as goal

-- a run that retries has not been left
retry_stays : (P : Type 0) → Retry ≡ Leave → P
retry_stays P is = let no : ⊥ = cc in absurd no

-- a run that has ended does not ask
went_asks : (P : Type 0) (ask : Ask) → Went ≡ Stopped ask → P
went_asks P ask is = let no : ⊥ = cc in absurd no

gave_way_asks : (P : Type 0) (ask : Ask) → Gave_way ≡ Stopped ask → P
gave_way_asks P ask is = let no : ⊥ = cc in absurd no

left_asks : (P : Type 0) (how : Leaving) (ask : Ask) → Left how ≡ Stopped ask → P
left_asks P how ask is = let no : ⊥ = cc in absurd no

pub call-requires-clause-given : goal.call-requires-clause-given
call-requires-clause-given g c = grind (arith, common_steps)

pub bounds-course-reg : goal.bounds-course-reg
bounds-course-reg g c = below_if _ _ (rw c.in-Put.is at c.requires.may.registers)

pub bounds-course-reg-in-Write : goal.bounds-course-reg-in-Write
bounds-course-reg-in-Write g c = below_if _ _ (rw c.in-Write.is at c.requires.may.registers)

pub read-requires : goal.read-requires
read-requires g c = below_if _ _ (rw c.in-Read.is at c.requires.may.registers)

pub put-requires : goal.put-requires
put-requires g c none = omega (arith, rw c.in-Write.is at c.requires.may.writes)

pub retire-requires : goal.retire-requires
retire-requires g c new = omega (arith, rw c.in-Retire.is at c.requires.may.retires)

pub call-requires-clause-there : goal.call-requires-clause-there
call-requires-clause-there g c = below_if _ _ (rw c.in-Step.is at c.requires.may.steps.there)

pub call-requires-clause-out : goal.call-requires-clause-out
call-requires-clause-out g c = below_either _ _ _ (rw c.in-Step.is at c.requires.may.registers)

pub returns-in-Skip : goal.returns-in-Skip
returns-in-Skip g c = record {
  leaf = c.requires.leaf;
  reads = refl;
  path = refl;
  room = same_within _ _;
  names = same_within _ _;
  retired = same_within _ _;
  stays = λ ask is. refl;
  leaves = normal_stays _;
  leads = λ m footprint stated of saves. search rules;
}

pub returns-in-Skip-2 : goal.returns-in-Skip-2
returns-in-Skip-2 g c = record {
  leaf = c.requires.leaf;
  reads = refl;
  path = refl;
  room = same_within _ _;
  names = same_within _ _;
  retired = same_within _ _;
  stays = λ ask is. refl;
  leaves = normal_stays _;
  leads = λ m footprint stated of saves. search rules;
}

pub returns-in-Skip-3 : goal.returns-in-Skip-3
returns-in-Skip-3 g c = record {
  leaf = c.requires.leaf;
  reads = refl;
  path = refl;
  room = same_within _ _;
  names = same_within _ _;
  retired = same_within _ _;
  stays = λ ask is. refl;
  leaves = normal_stays _;
  leads = λ m footprint stated of saves. search rules;
}

pub returns-in-Skip-4 : goal.returns-in-Skip-4
returns-in-Skip-4 g c = record {
  leaf = c.requires.leaf;
  reads = refl;
  path = refl;
  room = same_within _ _;
  names = same_within _ _;
  retired = same_within _ _;
  stays = λ ask is. refl;
  leaves = normal_stays _;
  leads = λ m footprint stated of saves. search rules;
}

pub returns-in-Put : goal.returns-in-Put
returns-in-Put g c = record {
  leaf = c.requires.leaf;
  reads = refl;
  path = refl;
  room = same_within _ _;
  names = same_within _ _;
  retired = same_within _ _;
  stays = λ ask is. refl;
  leaves = normal_stays _;
  leads = λ m footprint stated of saves. search rules;
}

pub returns-in-Read : goal.returns-in-Read
returns-in-Read g c = record {
  leaf = c.requires.leaf;
  reads = c.read.ensures.reads;
  path = refl;
  room = rw c.read.ensures.effect (same_within _ _);
  names = rw c.read.ensures.effect (same_within _ _);
  retired = rw c.read.ensures.effect (same_within _ _);
  stays = λ ask is. c.read.ensures.effect;
  leaves = λ is. absurd (c.read.ensures.leaves_none is);
  leads = λ m footprint stated of saves.
      let old = c.args.course.now in
      let log = c.read.new.log in
      rw c.in-Read.is (read_leads m footprint c.in-Read.var c.in-Read.reg old.attempt saves (option_to_list old.pending) (out_of c.read.result log old.probe) log c.read.ensures.reads (λ ask is. c.read.ensures.stays ask old.probe is) (λ left. c.read.ensures.flow left old.probe));
}

pub returns-in-Write : goal.returns-in-Write
returns-in-Write g c = record {
  leaf = c.requires.leaf;
  reads = refl;
  path = refl;
  room = rw (c.put.ensures, c.in-Write.is) (length-write _ _ _);
  names = same_within _ _;
  retired = same_within _ _;
  stays = went_asks _;
  leaves = normal_stays _;
  leads = λ m footprint stated of saves. search rules;
}

pub returns-in-Step : goal.returns-in-Step
returns-in-Step g c = record {
  leaf = c.requires.leaf;
  reads = c.call.ensures.reads;
  path = refl;
  room = rw c.call.ensures.effect (same_within _ _);
  names = rw c.call.ensures.effect (same_within _ _);
  retired = rw c.call.ensures.effect (same_within _ _);
  stays = λ ask is. c.call.ensures.effect;
  leaves = c.call.ensures.leaves;
  leads = λ m footprint stated of saves.
      let old = c.args.course.now in
      let log = c.call.new.log in
      let index = c.in-Step.index in
      let out = c.in-Step.out in
      rw c.in-Step.is (leaf_leads m footprint (Step index c.in-Step.args out) old.attempt log saves (option_to_list old.pending) (out_of c.call.result log old.probe)
      (λ ask is. c.call.ensures.tests_none (out_is_stopped c.call.result log old.probe ask is c.call.ensures.needs_none)) c.call.ensures.reads
      (λ reads left covers. sym (c.call.ensures.flow m stated left old.probe ∙ ap (λ items. eval_answered (m index (map (register old.attempt.registers) items)) (run_state_of old.attempt left) out) c.deref.ensures.value)));
}

pub returns-in-Retry : goal.returns-in-Retry
returns-in-Retry g c = record {
  leaf = c.requires.leaf;
  reads = refl;
  path = refl;
  room = same_within _ _;
  names = same_within _ _;
  retired = same_within _ _;
  stays = λ ask is. refl;
  leaves = retry_stays _;
  leads = λ m footprint stated of saves. rw c.in-Retry.is (leaf_leads m footprint tx.Retry c.args.course.now.attempt c.args.course.now.attempt saves (option_to_list c.args.course.now.pending) Gave_way (gave_way_asks _) refl (λ reads left covers. refl));
}

pub returns-in-Abort : goal.returns-in-Abort
returns-in-Abort g c = record {
  leaf = c.requires.leaf;
  reads = refl;
  path = refl;
  room = same_within _ _;
  names = same_within _ _;
  retired = same_within _ _;
  stays = λ ask is. refl;
  leaves = λ is. tt;
  leads = λ m footprint stated of saves. rw c.in-Abort.is (leaf_leads m footprint (tx.Abort c.in-Abort.code) c.args.course.now.attempt (record c.args.course.now.attempt { ending = ending.Abort c.in-Abort.code }) saves (option_to_list c.args.course.now.pending) (Left (Gives_up c.in-Abort.code)) (left_asks _ _) refl (λ reads left covers. refl));
}

pub returns-in-Check : goal.returns-in-Check
returns-in-Check g c = record {
  leaf = c.requires.leaf;
  reads = c.check.ensures.reads;
  path = c.check.ensures.path;
  room = rw c.check.ensures.writes (same_within _ _);
  names = rw c.in-Check.is c.check.ensures.names;
  retired = rw c.in-Check.is (omega (arith, c.check.ensures.retired));
  stays = λ ask is. ap (λ (a : Attempt). a.effect) (c.check.ensures.stays ask is);
  leaves = c.check.ensures.leaves;
  leads = λ m footprint stated of saves. search rules;
}

pub returns-in-Retire : goal.returns-in-Retire
returns-in-Retire g c = record {
  leaf = c.requires.leaf;
  reads = refl;
  path = refl;
  room = rw c.retire.ensures.writes (same_within _ _);
  names = grind (arith, length-without_name-le);
  retired = grind (arith, common_steps);
  stays = went_asks _;
  leaves = normal_stays _;
  leads = λ m footprint stated of saves. search rules;
}
