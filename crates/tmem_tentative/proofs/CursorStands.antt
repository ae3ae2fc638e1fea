-- What a cursor that stands in the evaluation of a plan answers, and where it stands then.
use Rattle.std.proofs.Common.{◌≡◌, ℕ, ℤ, pos, Bool, true, false, List, [], ◌∷◌, ◌++◌, Some, None, nat_eq, cond, length, ◌≤◌, append-nil, append_assoc, arith, refl, sym, ap, ◌∙◌, subst}
use mathlib.Core.Logic.{∥∥₁_elim}
use Rattle.std.proofs.lemmas.Bool.{eqb-true}
use Rattle.indexmap.specs.IndexMap.{insert_entry}
use Rattle.tmem_invariants.specs.Meanings.{Meanings}
use Rattle.tmem_effect.specs.State.{no_effect}
use Rattle.tmem_effect.specs.Writes.{value_in}
use Rattle.tmem_tree.specs.Limits.{choices}
use Rattle.tmem_tree.specs.Plans.{PlanView, IsWithinLimits, FitsSteps, HasSignatures}
use Rattle.tmem_tree.specs.Run.{no_registers}
use Rattle.tmem_tree.specs.Signatures.{footprint_in, names_of}
use Rattle.tmem_tree.specs.declared.signature.Signature.{Signature}
use Rattle.tmem_tree.specs.declared.tx.Tx.{Tx}
use Rattle.tmem_tree.specs.StepAnswers.{StepMeanings}
use Rattle.tmem_tree.specs.Visited.{Ask, Visit, Probe}
use Rattle.tmem_tentative.specs.declared.attempt.Outcome.TheVariants as outcome
use Rattle.tmem_tentative.specs.declared.attempt.Progress.{Progress}
use Rattle.tmem_tentative.specs.declared.attempt.Progress.TheVariants as progress
use Rattle.tmem_tentative.specs.declared.attempt.Attempt.{Attempt}
use Rattle.tmem_tentative.specs.declared.attempt.Ending.{Ending}
use Rattle.tmem_tentative.specs.declared.attempt.Ending.TheVariants.{Normal, Retry, Abort, Broken}
use Rattle.tmem_tentative.specs.declared.course.Course.{Course}
use Rattle.tmem_tentative.specs.declared.cursor.Cursor.{Cursor}
use Rattle.tmem_tentative.specs.declared.save.Save.{Save}
use Rattle.tmem_tentative.specs.declared.cursor.Stage.TheVariants.{Going}
use Rattle.tmem_tentative.specs.Eval.{Taken, Goes, Retries, Leaves, Gives_up, Breaks, eval}
use Rattle.tmem_tentative.specs.Ends.{start_state, ended_as, IsEndOf, IsMadeOf}
use Rattle.tmem_tentative.specs.Logs.{AreOf, Out, Went, Stopped, Gave_way, Left, IsLeaving, left_for, run_state_of}
use Rattle.tmem_tentative.specs.Places.{Covers, Place, LeadsTo, MayRunFrom, RunsTo, place_of, place_at, eval_from, with_more, read_behind, WritesFit, NamesFit, RetiresFit}
use Rattle.tmem_tentative.specs.Right.{HaveAnswered, IsOutcome}
use Rattle.tmem_tentative.specs.Cursors.{IsAt, StandsIn, IsAtStage, MayGoOn, EvaluationStandsAt, AsksFor, Answered, HasEnded, given, answers, unused, taken, outcome_of, place}
use Rattle.tmem_tentative.specs.CursorFacts.{MayGoOn-prop}
use Rattle.tmem_tentative.proofs.EvalSeen.{covers_refl}
use Rattle.tmem_tentative.proofs.MadeOutcomes.{FitsPlan, need_lacks, made_fits_plan, end_made}
use Rattle.tmem_tentative.proofs.ReadEntries.{value_in-insert}
use Rattle.tmem_tentative.proofs.RightOutcomes.{made_right}

-- what was answered last is what the evaluation comes to
pub at_made : (m : StepMeanings) (footprint : List ℕ → List ℕ) (plan : Tx) (cursor : Cursor) (p : Progress) → IsAtStage m footprint plan cursor.stage cursor → Answered cursor p
    → IsMadeOf (eval m footprint (given cursor) plan (start_state (answers cursor))) (unused cursor) (outcome_of cursor p)
at_made m footprint plan cursor (progress.Need var) at is =
    let h = subst (λ s. IsAtStage m footprint plan s cursor) is at in h.1
at_made m footprint plan cursor progress.Probe at is =
    let h = subst (λ s. IsAtStage m footprint plan s cursor) is at in h.1
at_made m footprint plan cursor progress.Ended at is = subst (λ s. IsAtStage m footprint plan s cursor) is at

-- so it is right
pub at_right : (m : StepMeanings) (tests : Meanings) (plan : Tx) (cursor : Cursor) (p : Progress) → IsAt m tests plan cursor → Answered cursor p → IsOutcome m tests plan (given cursor) (length (answers cursor)) (outcome_of cursor p)
at_right m tests plan cursor p at is =
    made_right m tests plan (given cursor) (answers cursor) (unused cursor) (outcome_of cursor p) at.answered (at_made m tests.footprint plan cursor p at.stands is)

-- and it fits the plan
pub stands_fit : {IsStated : StepMeanings → Type 0} (plan : PlanView) (cursor : Cursor) (p : Progress) → ∥ ((m : StepMeanings) × IsStated m) ∥₁ → HasSignatures (names_of plan.signatures) plan.tree → ((m : StepMeanings) → IsStated m → StandsIn m plan cursor) → Answered cursor p → FitsPlan (given cursor) plan (outcome_of cursor p)
stands_fit plan cursor p some covered stands is =
    made_fits_plan some covered (given cursor) (answers cursor) (unused cursor) (outcome_of cursor p) (λ m stated. at_made m (footprint_in plan.signatures) plan.tree cursor p (stands m stated) is)

-- with the same values and answers, where it stands too
pub at_still : (m : StepMeanings) (tests : Meanings) (plan : Tx) (old new : Cursor) → IsAtStage m tests.footprint plan new.stage new → given new ≡ given old → answers new ≡ answers old → IsAt m tests plan old → IsAt m tests plan new
at_still m tests plan old new stands same_given same_answers at = record {
  stands = stands;
  answered = subst (λ es. HaveAnswered m tests plan es (answers new)) (sym same_given) (subst (HaveAnswered m tests plan (given old)) (sym same_answers) at.answered);
}

-- reads that have a new value have the values before it
covers_before : (reads seen : List (ℕ × ℤ)) (var : ℕ) (n : ℤ) → value_in seen var ≡ None → Covers reads (insert_entry nat_eq seen var n) → Covers reads seen
covers_before reads seen var n none covers = record { at = λ v x h. covers.at v x (value_in-insert seen var n v ∙ on v (nat_eq v var) refl x h) } where
  on : (v : ℕ) (b : Bool) → nat_eq v var ≡ b → (x : ℤ) → value_in seen v ≡ Some x → cond b (Some n) (value_in seen v) ≡ Some x
  on v true e x h = let no : value_in seen v ≡ None = ap (value_in seen) (eqb-true v var e) ∙ none in cc
  on v false e x h = h

module _ (m : StepMeanings) (footprint : List ℕ → List ℕ) (plan : Tx) (answers : List Bool) (p : Place) (seen : List (ℕ × ℤ)) where
  -- one more value is one that it lacked
  pub given_covers : (var : ℕ) (n : ℤ) → AsksFor m footprint plan seen answers (Visit var) → Covers (insert_entry nat_eq seen var n) seen
  given_covers var n asks =
      covers_before (insert_entry nat_eq seen var n) seen var n (need_lacks m footprint seen plan answers var asks) (covers_refl _)

  -- once it is given the value that it needs
  pub given_stands : (var : ℕ) (n : ℤ) (left : List Bool) → AsksFor m footprint plan seen answers (Visit var) → EvaluationStandsAt m footprint plan answers p seen (record { reads = insert_entry nat_eq seen var n; left = left })
      → EvaluationStandsAt m footprint plan answers p (insert_entry nat_eq seen var n) (record { reads = insert_entry nat_eq seen var n; left = left })
  given_stands var n left asks stands reads more c d =
      stands reads more (covers_before reads seen var n (need_lacks m footprint seen plan answers var asks) c) d

  -- once it is answered
  pub answered_stands : (left : List Bool) (held : Bool) → left ≡ [] → EvaluationStandsAt m footprint plan answers p seen (record { reads = seen; left = left }) → EvaluationStandsAt m footprint plan (answers ++ held ∷ []) p seen (record { reads = seen; left = held ∷ [] })
  answered_stands left held none stands reads more c d =
      ap (λ all. eval m footprint reads plan (start_state all)) (append_assoc answers (held ∷ []) more)
      ∙ stands reads (held ∷ more) c d
      ∙ ap (λ l. eval_from m footprint reads plan p (record { reads = seen; left = l ++ held ∷ more })) none

-- the reads stay
end_reads : (old new : Attempt) (end : Ending) → IsEndOf old end new → new.reads.entries ≡ old.reads.entries
end_reads old new Normal is = ap (λ (a : Attempt). a.reads.entries) is
end_reads old new Retry is = ap (λ rs. rs.entries) is.0
end_reads old new (Abort code) is = ap (λ rs. rs.entries) is.0
end_reads old new (Broken name) is = ap (λ rs. rs.entries) is.0

-- a run may go on from where the cursor stands
pub may_run : {IsStated : StepMeanings → Type 0} {arities : List ℕ} (plan : PlanView) (cursor : Cursor) → ∥ ((m : StepMeanings) × IsStated m) ∥₁ → IsWithinLimits plan.tree → FitsSteps arities plan.tree → HasSignatures (names_of plan.signatures) plan.tree → cursor.stage ≡ Going
    → ((m : StepMeanings) → IsStated m → StandsIn m plan cursor) → MayRunFrom arities (names_of plan.signatures) plan.tree (place cursor)
may_run plan cursor some limits steps known going stands =
    let may : MayGoOn plan.tree (place cursor) = ∥∥₁_elim some (MayGoOn-prop plan.tree (place cursor)) (λ p. (subst (λ s. IsAtStage p.0 (footprint_in plan.signatures) plan.tree s cursor) going (stands p.0 p.1)).0) in
    record { registers = limits.registers; steps = steps; known = known; deep = limits.shallow; enough = may.enough; writes = (0, may.writes); names = (0, may.names); retires = (0, may.retires) }

-- how a run has come out that has ended so
abbrev pub out_for : Ending → Out
out_for Normal = Went
out_for Retry = Gave_way
out_for (Abort code) = Left (Gives_up code)
out_for (Broken name) = Left (Breaks name)

pub leaving_out : (end : Ending) → IsLeaving end → Left (left_for end) ≡ out_for end
leaving_out Normal is = absurd is
leaving_out Retry is = absurd is
leaving_out (Abort code) is = refl
leaving_out (Broken name) is = refl

module _ (m : StepMeanings) (footprint : List ℕ → List ℕ) (plan : Tx) (answers : List Bool) (before : Place) (seen : Taken) (stands : EvaluationStandsAt m footprint plan answers before seen.reads seen) where
  from_start : eval m footprint seen.reads plan (start_state answers) ≡ eval_from m footprint seen.reads plan before (with_more seen [])
  from_start =
      ap (λ all. eval m footprint seen.reads plan (start_state all)) (sym (append-nil answers)) ∙ stands seen.reads [] (covers_refl seen.reads) (covers_refl seen.reads)

  -- behind a run that asks
  stops : {ask : Ask} {after : Place} {left : List Bool} → LeadsTo m footprint seen plan before (Stopped ask) after left → AsksFor m footprint plan seen.reads answers ask
  stops {ask} l = from_start ∙ l.asks ask refl

  goes_on : {ask : Ask} {after : Place} {left : List Bool} → LeadsTo m footprint seen plan before (Stopped ask) after left → (n : ℤ) → EvaluationStandsAt m footprint plan answers after seen.reads (record { reads = read_behind (Stopped ask) seen.reads n; left = left })
  goes_on l n reads more c d = stands reads more c c ∙ l.goes_on reads n more c d

  -- behind one that has ended
  ends : {path : List ℕ} {saves : List Save} {left : List Bool} (end : Ending) (log : Attempt) → seen.reads ≡ log.reads.entries → LeadsTo m footprint seen plan before (out_for end) (place_of log path saves) left
      → eval m footprint seen.reads plan (start_state answers) ≡ ended_as end (run_state_of log left)
  ends {left = left} end log same l = from_start ∙ on end l where
    both : ◌≡◌ {A = Taken} (record { reads = seen.reads; left = left ++ [] }) (record { reads = log.reads.entries; left = left })
    both = ap (λ es. record { reads = es; left = left ++ [] }) same ∙ ap (λ l. record { reads = log.reads.entries; left = l }) (append-nil left)

    on : {path : List ℕ} {saves : List Save} (end : Ending) → LeadsTo m footprint seen plan before (out_for end) (place_of log path saves) left → eval_from m footprint seen.reads plan before (with_more seen []) ≡ ended_as end (run_state_of log left)
    on Normal l = l.goes_on seen.reads (pos 0) [] (covers_refl seen.reads) (covers_refl seen.reads) ∙ ap (λ (t : Taken). Goes (record { registers = log.registers; effect = log.effect; seen = t })) both
    on Retry l = l.goes_on seen.reads (pos 0) [] (covers_refl seen.reads) (covers_refl seen.reads) ∙ ap (λ (t : Taken). Retries t) both
    on (Abort code) l = l.goes_on seen.reads (pos 0) [] (covers_refl seen.reads) (covers_refl seen.reads) ∙ ap (λ (t : Taken). Leaves (Gives_up code) t) both
    on (Broken name) l = l.goes_on seen.reads (pos 0) [] (covers_refl seen.reads) (covers_refl seen.reads) ∙ ap (λ (t : Taken). Leaves (Breaks name) t) both

module _ (m : StepMeanings) (footprint : List ℕ → List ℕ) (plan : Tx) (old : Cursor) (course : Course) (going : old.stage ≡ Going) (at : IsAtStage m footprint plan old.stage old) (reads : course.attempt.reads ≡ old.course.attempt.reads) where
  here : MayGoOn plan (place old) × EvaluationStandsAt m footprint plan (answers old) (place old) (given old) (taken old)
  here = subst (λ s. IsAtStage m footprint plan s old) going at

  module _ {IsStated : StepMeanings → Type 0} {signatures : List Signature} {saves : List Save} {left : List Bool} {ask : Ask} (long : length saves ≡ length old.saves.items) (run : RunsTo IsStated signatures (taken old) plan (place old) (Stopped ask) (place_at course saves) left) (leads : LeadsTo m footprint (taken old) plan (place old) (Stopped ask) (place_at course saves) left) where
    may_still : MayGoOn plan (place_at course saves)
    may_still = record { enough = omega (arith, here.0.enough, long); writes = run.writes 0 here.0.writes; names = run.names 0 here.0.names; retires = run.retires 0 here.0.retires }

    asks_still : AsksFor m footprint plan course.attempt.reads.entries (answers old) ask
    asks_still = subst (λ rs. AsksFor m footprint plan rs.entries (answers old) ask) (sym reads) (stops m footprint plan (answers old) (place old) (taken old) here.1 leads)

    stands_still : (n : ℤ) → EvaluationStandsAt m footprint plan (answers old) (place_at course saves) course.attempt.reads.entries (record { reads = read_behind (Stopped ask) course.attempt.reads.entries n; left = left })
    stands_still n = subst (λ rs. EvaluationStandsAt m footprint plan (answers old) (place_at course saves) rs.entries (record { reads = read_behind (Stopped ask) rs.entries n; left = left })) (sym reads) (goes_on m footprint plan (answers old) (place old) (taken old) here.1 leads n)

  -- a cursor that has gone on to a value that it needs
  pub waits_at : {IsStated : StepMeanings → Type 0} {signatures : List Signature} {saves : List Save} {left : List Bool} {var : ℕ} → IsStated m → AreOf signatures footprint → length saves ≡ length old.saves.items → RunsTo IsStated signatures (taken old) plan (place old) (Stopped (Visit var)) (place_at course saves) left
      → MayGoOn plan (place_at course saves) × AsksFor m footprint plan course.attempt.reads.entries (answers old) (Visit var)
      × ((n : ℤ) → EvaluationStandsAt m footprint plan (answers old) (place_at course saves) course.attempt.reads.entries (record { reads = insert_entry nat_eq course.attempt.reads.entries var n; left = left }))
  waits_at stated of long run =
      let leads = run.leads m footprint stated of in
      (may_still long run leads, asks_still long run leads, stands_still long run leads)

  -- one that has gone on to a test
  pub tests_at : {IsStated : StepMeanings → Type 0} {signatures : List Signature} {saves : List Save} {left : List Bool} {name : List ℕ} {values : List ℤ} → IsStated m → AreOf signatures footprint → length saves ≡ length old.saves.items → RunsTo IsStated signatures (taken old) plan (place old) (Stopped (Probe name values)) (place_at course saves) left
      → MayGoOn plan (place_at course saves) × AsksFor m footprint plan course.attempt.reads.entries (answers old) (Probe name values)
      × EvaluationStandsAt m footprint plan (answers old) (place_at course saves) course.attempt.reads.entries (record { reads = course.attempt.reads.entries; left = left }) × (left ≡ [])
  tests_at {name = name} {values = values} stated of long run =
      let leads = run.leads m footprint stated of in
      (may_still long run leads, asks_still long run leads, stands_still long run leads (pos 0), leads.spent name values refl)

  -- one that has gone on to an end
  pub ended_at : {saves : List Save} {left : List Bool} (end : Ending) (new : Cursor) → LeadsTo m footprint (taken old) plan (place old) (out_for end) (place_at course saves) left → IsEndOf course.attempt end new.course.attempt → answers new ≡ answers old → unused new ≡ left → HasEnded new
      → IsAtStage m footprint plan new.stage new
  ended_at {left = left} end new l is same unused_is ended =
      let given_is : given new ≡ given old = end_reads course.attempt new.course.attempt end is ∙ ap (λ rs. rs.entries) reads in
      subst (λ s. IsAtStage m footprint plan s new) (sym ended)
      (subst (λ left. IsMadeOf (eval m footprint (given new) plan (start_state (answers new))) left (outcome.Ended new.course.attempt)) (sym unused_is)
      (end_made (eval m footprint (given new) plan (start_state (answers new))) left course.attempt new.course.attempt end
      (ap (λ es. eval m footprint es plan (start_state (answers new))) given_is ∙ ap (λ all. eval m footprint (given old) plan (start_state all)) same ∙ ends m footprint plan (answers old) (place old) (taken old) here.1 end course.attempt (ap (λ rs. rs.entries) (sym reads)) l) is))

-- at the start of a plan
pub start_stands : (m : StepMeanings) (footprint : List ℕ → List ℕ) (plan : Tx) (p : Place) (answers : List Bool) (seen : Taken) → p.path ≡ [] → p.registers ≡ no_registers → p.effect ≡ no_effect → answers ≡ [] → seen.reads ≡ [] → seen.left ≡ [] → choices plan ≤ length p.saves → IsWithinLimits plan
    → MayGoOn plan p × EvaluationStandsAt m footprint plan answers p seen.reads seen
start_stands m footprint plan p answers seen path registers effect no_answers no_reads no_left enough limits = (
  record {
    enough = enough;
    writes = subst (λ l. WritesFit 0 l plan p.saves p.effect) (sym path) (subst (λ e. WritesFit 0 [] plan p.saves e) (sym effect) (omega (arith, limits.writes)));
    names = subst (λ l. NamesFit 0 l plan p.saves p.effect) (sym path) (subst (λ e. NamesFit 0 [] plan p.saves e) (sym effect) (omega (arith, limits.checks)));
    retires = subst (λ l. RetiresFit 0 l plan p.saves p.effect) (sym path) (subst (λ e. RetiresFit 0 [] plan p.saves e) (sym effect) (omega (arith, limits.retires)));
  },
  λ reads more c d.
      ap (λ all. eval m footprint reads plan (start_state (all ++ more))) no_answers
      ∙ ap (λ r. eval_from m footprint reads plan (record { path = []; saves = p.saves; registers = r; effect = no_effect }) (record { reads = []; left = more })) (sym registers)
      ∙ ap (λ e. eval_from m footprint reads plan (record { path = []; saves = p.saves; registers = p.registers; effect = e }) (record { reads = []; left = more })) (sym effect)
      ∙ ap (λ l. eval_from m footprint reads plan (record { path = l; saves = p.saves; registers = p.registers; effect = p.effect }) (record { reads = []; left = more })) (sym path)
      ∙ ap (λ es. eval_from m footprint reads plan p (record { reads = es; left = more })) (sym no_reads)
      ∙ ap (λ l. eval_from m footprint reads plan p (record { reads = seen.reads; left = l ++ more })) (sym no_left),
)
