-- What the answer to an attempt tells of the verdict.
use Rattle.std.proofs.Common.{◌≡◌, ◌-◌, ℕ, ℤ, Bool, true, false, cond, ◌==◌, List, [], ◌∷◌, Option, Some, None, Result, Ok, Err, IfOk, IfErr, refl, sym, ap, ◌∙◌, subst, append-nil}
use Rattle.tmem_fault.specs.declared.fault.Fault.{Fault}
use Rattle.tmem_fault.specs.declared.fault.Fault.TheVariants as fault
use Rattle.tmem_effect.specs.State.{State, is_empty}
use Rattle.tmem_effect.specs.declared.effect.Effect.{Effect}
use Rattle.tmem_tree.specs.declared.tx.Tx.{Tx}
use Rattle.tmem_tree.specs.Run as run
use Rattle.tmem_tree.specs.Run.{run, start}
use Rattle.tmem_tentative.specs.Right.{IsRight, EndsAs}
use Rattle.tmem_tentative.specs.Fits.{IsEndingFor}
use Rattle.tmem_tentative.specs.declared.attempt.Attempt.{Attempt}
use Rattle.tmem_tentative.specs.declared.attempt.Ending.{Ending}
use Rattle.tmem_tentative.specs.declared.attempt.Ending.TheVariants as ended
use Rattle.tmem_tree.specs.declared.settled.Settled.{Settled}
use Rattle.tmem_tree.specs.declared.settled.Settled.TheVariants.{Committed, Seen}
use Rattle.tmem_core.specs.Program.{Program, IsProgramOf}
use Rattle.tmem_core.specs.Held.{CoreView, core_view, core_state, durable_of, is_shut_of, core_table, committing}
use Rattle.tmem_core.specs.Settling.{Settles}
use Rattle.tmem_core.specs.Decisions.{answer_of}
use Rattle.tmem_core.specs.declared.decision.Decision.{Decision}
use Rattle.tmem_core.specs.declared.core_state.Core.{Core}
use Rattle.tmem_invariants.specs.declared.named.Invariants.{Ghosts}
use Rattle.tmem_core.specs.Verdict.{map_of, first_broken, unless_broken, verdict, verdict_on, verdict_normal, effect_on, committed}
use Rattle.tmem_core.specs.SettleAnswer.{has_changed, sound_answer, unless_refused, normal_answer, ending_answer, settle_answer, allowed, judged, IsAdded, IsRefusal, TellsOneOf, committed_by}
use Rattle.tmem_core.proofs.Present.{agrees}
use Rattle.tmem_core.proofs.Probed.{has_name-find}

-- the verdict on an effect that breaks no invariant
abbrev sound_verdict : State → Effect → List ℤ → Settled
sound_verdict s e registers = cond (is_empty e) (Seen s.count registers) (Committed s.count registers)

allows_sound : (s : State) (durable : ℕ) (e : Effect) (registers : List ℤ) → sound_answer s durable e registers ≡ allowed (sound_verdict s e registers) durable
allows_sound s durable e registers = on (is_empty e) where
  on : (b : Bool) →
      cond b (Ok (Seen s.count registers)) (cond (s.count - durable == 256) (Err fault.Full) (cond (s.count == 18446744073709551615) (Err fault.Spent) (Ok (Committed s.count registers))))
      ≡ allowed (cond b (Seen s.count registers) (Committed s.count registers)) durable
  on true = refl
  on false = refl

allows_normal : (p : Program) (s : State) (durable : ℕ) (e : Effect) (registers : List ℤ) → normal_answer p s durable e registers ≡ allowed (verdict_normal p s e registers) durable
allows_normal p s durable e registers = on (first_broken p s e) where
  on : (o : Option (List ℕ)) → unless_refused o (sound_answer s durable e registers) ≡ allowed (unless_broken o (sound_verdict s e registers)) durable
  on (Some name) = refl
  on None = allows_sound s durable e registers

-- what is allowed commits what the verdict does
adds_allowed : (v : Settled) (durable : ℕ) (e : Effect) → IfOk (allowed v durable) (λ settled. committed settled e ≡ committed v e)
adds_allowed (Committed number registers) durable e = on (number - durable == 256) (number == 18446744073709551615) where
  on : (full spent : Bool) → IfOk (cond full (Err fault.Full) (cond spent (Err fault.Spent) (Ok (Committed number registers)))) (λ settled. committed settled e ≡ e ∷ [])
  on true spent = tt
  on false true = tt
  on false false = refl
adds_allowed _ durable e = refl

-- what an answer is to a run that ended so
abbrev JudgesRun : Program → State → ℕ → Effect → Result Settled Fault → run.RunResult → Type 0
JudgesRun p s durable own answer e =
    (answer ≡ allowed (verdict_on p s e) durable) × IfOk answer (λ settled. committed settled own ≡ committed (verdict_on p s e) (effect_on e))

judges_ending : (p : Program) (e : run.RunResult) (s : State) (durable : ℕ) (a : Attempt) → EndsAs e a → JudgesRun p s durable a.effect (ending_answer p a.ending s durable a.effect a.registers) e
judges_ending p (run.Normal view) s durable a ends =
    let allows = allows_normal p s durable view.effect view.registers in
    subst (λ x. JudgesRun p s durable a.effect (ending_answer p x s durable a.effect a.registers) (run.Normal view)) (sym ends.0)
    (subst (λ (rs : List ℤ). JudgesRun p s durable a.effect (normal_answer p s durable a.effect rs) (run.Normal view)) (sym ends.1)
    (subst (λ (e : Effect). JudgesRun p s durable e (normal_answer p s durable e view.registers) (run.Normal view)) (sym ends.2)
    (allows, subst (λ x. IfOk x (λ settled. committed settled view.effect ≡ committed (verdict_normal p s view.effect view.registers) view.effect)) (sym allows) (adds_allowed (verdict_normal p s view.effect view.registers) durable view.effect))))
judges_ending p run.Retried s durable a ends = subst (λ x. JudgesRun p s durable a.effect (ending_answer p x s durable a.effect a.registers) run.Retried) (sym ends.0) (refl, refl)
judges_ending p (run.Aborted code) s durable a ends = subst (λ x. JudgesRun p s durable a.effect (ending_answer p x s durable a.effect a.registers) (run.Aborted code)) (sym ends.0) (refl, refl)
judges_ending p (run.Broken name) s durable a ends = subst (λ x. JudgesRun p s durable a.effect (ending_answer p x s durable a.effect a.registers) (run.Broken name)) (sym ends.0) (refl, refl)

-- where no value that was read differs, the answer by the ending is the verdict's, and it commits what the plan adds
judges_attempt : (p : Program) (tx : Tx) (s : State) (durable : ℕ) (a : Attempt) → has_changed s a.reads.entries ≡ false → IsRight p.steps p.tests tx a
    → JudgesRun p s durable a.effect (ending_answer p a.ending s durable a.effect a.registers) (run p.steps p.tests tx (start (map_of s)))
judges_attempt p tx s durable a fresh right = judges_ending p (run p.steps p.tests tx (start (map_of s))) s durable a (right.ends (map_of s) (agrees s a.reads.entries fresh))

-- a decision is refused as its whole answer is
pub refused_with : (decision : Result Decision Fault) (registers : List ℤ) → IfErr decision IsRefusal → IfErr (answer_of decision registers) IsRefusal
refused_with (Ok decision) registers refused = tt
refused_with (Err f) registers refused = refused

-- the answer to an effect that breaks no invariant tells no name
sound_tells : (names : List (List ℕ)) (s : State) (durable : ℕ) (e : Effect) (registers : List ℤ) → IfOk (sound_answer s durable e registers) (TellsOneOf names)
sound_tells names s durable e registers = on (is_empty e) (s.count - durable == 256) (s.count == 18446744073709551615) where
  on : (empty full spent : Bool) → IfOk (cond empty (Ok (Seen s.count registers)) (cond full (Err fault.Full) (cond spent (Err fault.Spent) (Ok (Committed s.count registers))))) (TellsOneOf names)
  on true full spent = tt
  on false true spent = tt
  on false false true = tt
  on false false false = tt

-- Where an answer tells the name of an invariant, that is one of the program's: the name at which the attempt was broken, or the first
-- of them that its effect would break.
pub TellsOneOf-answer : (p : Program) (shut : Bool) (s : State) (durable : ℕ) (a : Attempt) → IsEndingFor p.names a.ending → IfOk (settle_answer p shut s durable a) (TellsOneOf p.names)
TellsOneOf-answer p shut s durable a known =
    on shut (has_changed s a.reads.entries) (ending_answer p a.ending s durable a.effect a.registers) (by_ending a.ending known)
  where
    by_normal : (o : Option (List ℕ)) → first_broken p s a.effect ≡ o → IfOk (unless_refused o (sound_answer s durable a.effect a.registers)) (TellsOneOf p.names)
    by_normal (Some name) is = has_name-find _ p.names name is
    by_normal None is = sound_tells p.names s durable a.effect a.registers

    by_ending : (e : Ending) → IsEndingFor p.names e → IfOk (ending_answer p e s durable a.effect a.registers) (TellsOneOf p.names)
    by_ending ended.Normal known = by_normal (first_broken p s a.effect) refl
    by_ending ended.Retry known = tt
    by_ending (ended.Abort code) known = tt
    by_ending (ended.Broken name) known = known

    on : (shut stale : Bool) (answer : Result Settled Fault) → IfOk answer (TellsOneOf p.names) → IfOk (cond shut (Err fault.Closed) (cond stale (Err fault.Conflict) answer)) (TellsOneOf p.names)
    on true stale answer tells = tt
    on false true answer tells = tt
    on false false answer tells = tells

-- to commit nothing changes nothing
pub committing-none : {T : Type 0} (v : CoreView T) → v ≡ committing [] v
committing-none v = rw (append-nil v.history, append-nil v.waiting)

module _ {T : Type 0} {t : Ghosts T} (old new : Core T t) (a : Attempt) where
  -- an attempt is settled by its ending, where the core runs and no value that was read differs
  pub settles : (x : Result Settled Fault) → is_shut_of old ≡ false → has_changed (core_state old) a.reads.entries ≡ false
      → ((p : Program) → IsProgramOf t (core_table old) p → x ≡ ending_answer p a.ending (core_state old) (durable_of old) a.effect a.registers)
      → IfErr x IsRefusal → core_view new ≡ committing (committed_by x a.effect) (core_view old) → Settles old new a x
  settles x runs fresh by_ending refused view = record {
    answer = λ p are. by_ending p are ∙ sym (running (λ b. cond b (Err fault.Closed) (cond (has_changed (core_state old) a.reads.entries) (Err fault.Conflict) (by_its_ending p)))
        ∙ ap (λ b. cond b (Err fault.Conflict) (by_its_ending p)) fresh);
    verdict = λ p tx are right. by_ending p are ∙ (judges_attempt p tx (core_state old) (durable_of old) a fresh right).0
        ∙ sym (running (λ b. judged b (core_state old) (durable_of old) a.reads.entries (verdict p tx (core_state old)))
        ∙ ap (λ b. cond b (Err fault.Conflict) (allowed (verdict p tx (core_state old)) (durable_of old))) fresh);
    added = λ p tx are right. subst (IsAdded p tx (core_state old) a) (sym (by_ending p are)) (judges_attempt p tx (core_state old) (durable_of old) a fresh right).1;
    refused = refused;
    view = view;
  } where
    by_its_ending : Program → Result Settled Fault
    by_its_ending p = ending_answer p a.ending (core_state old) (durable_of old) a.effect a.registers

    running : (f : Bool → Result Settled Fault) → f (is_shut_of old) ≡ f false
    running f = ap f runs
