-- What an evaluation tells of the attempt that is made of it.
use Rattle.std.proofs.Common.{◌≡◌, ℕ, ℤ, Bool, true, false, List, [], ◌∷◌, length, Some, None, unwrap_or, nat_eq, cond, refl, sym, ap, ◌∙◌, subst}
use Rattle.std.proofs.lemmas.Bool.{eqb-true, eq-eqb}
use Rattle.indexmap.specs.IndexMap.{insert_entry}
use Rattle.tmem_invariants.specs.Meanings.{Meanings}
use Rattle.tmem_effect.specs.Writes.{value_in}
use Rattle.tmem_tree.specs.declared.tx.Tx.{Tx}
use Rattle.tmem_tree.specs.StepAnswers.{StepMeanings}
use Rattle.tmem_tree.specs.Run.{RunResult, Normal, Retried, Aborted, Broken, run, start}
use Rattle.tmem_tree.specs.Visited.{Ask, Visit, Probe, asks, visits_in}
use Rattle.tmem_tentative.specs.Eval.{RunState, eval}
use Rattle.tmem_tentative.specs.Right.{Agrees, EndsAs, HaveAnswered, IsOutcome, first_open}
use Rattle.tmem_tentative.specs.Ends.{start_state, ended_as, IsMadeOf}
use Rattle.tmem_tentative.specs.Fits.{IsBlankUnlessNormal}
use Rattle.tmem_tentative.specs.Logs.{run_state_of}
use Rattle.tmem_tentative.specs.declared.attempt.Attempt.{Attempt}
use Rattle.tmem_tentative.specs.declared.attempt.Outcome.{Outcome}
use Rattle.tmem_tentative.specs.declared.attempt.Outcome.TheVariants.{Need, Ended}
use Rattle.tmem_tentative.specs.declared.attempt.Outcome.TheVariants as outcome
use Rattle.tmem_tentative.specs.declared.attempt.Ending.{Ending}
use Rattle.tmem_tentative.specs.declared.attempt.Ending.TheVariants as ending
use Rattle.tmem_tentative.proofs.ReadEntries.{value_in-insert, note, note-valued}
use Rattle.tmem_tentative.proofs.EvalRuns.{Tells, tells, overlay}
use Rattle.tmem_tentative.proofs.RunVisits.{AgreeOn, EndLike, note_same, same}

module _ (reads : List (ℕ × ℤ)) (values : ℕ → ℤ) (answers : List Bool) (e : RunResult) (xs : List Ask) where
  -- of a run that has ended, nothing that it asks for is open, and it saw what it visits
  told_reads : (end : Ending) (s : RunState) → Tells reads values (record { reads = []; left = answers }) e xs (ended_as end s) → (first_open reads (length answers) xs ≡ None) × (s.seen.reads ≡ note values [] (visits_in xs))
  told_reads ending.Normal s t = (t.1, ap (λ seen. seen.reads) t.2)
  told_reads ending.Retry s t = (t.1, ap (λ seen. seen.reads) t.2)
  told_reads (ending.Abort code) s t = (t.1, ap (λ seen. seen.reads) t.2)
  told_reads (ending.Broken name) s t = (t.1, ap (λ seen. seen.reads) t.2)

  -- and it ended so
  told_ends : (left : List Bool) (end : Ending) (a : Attempt) → a.ending ≡ end → IsBlankUnlessNormal end a → Tells reads values (record { reads = []; left = answers }) e xs (ended_as end (run_state_of a left)) → EndsAs e a
  told_ends left ending.Normal a is blank t = subst (λ d. EndsAs d a) (sym t.0) (is, refl, refl)
  told_ends left ending.Retry a is blank t = subst (λ d. EndsAs d a) (sym t.0) (is, blank)
  told_ends left (ending.Abort code) a is blank t = subst (λ d. EndsAs d a) (sym t.0) (is, blank)
  told_ends left (ending.Broken name) a is blank t = subst (λ d. EndsAs d a) (sym t.0) (is, blank)

module _ (v w : ℕ → ℤ) where
  -- a run that ends alike on another map ends as the same attempt
  ends_alike : (e e' : RunResult) (a : Attempt) → EndLike v w e e' → EndsAs e a → EndsAs e' a
  ends_alike (Normal view) e' a like is =
      subst (λ d. EndsAs d a) (sym like.2) (subst (λ x. EndsAs (Normal x) a) like.1 is)
  ends_alike Retried e' a like is = subst (λ d. EndsAs d a) (sym like) is
  ends_alike (Aborted code) e' a like is = subst (λ d. EndsAs d a) (sym like) is
  ends_alike (Broken name) e' a like is = subst (λ d. EndsAs d a) (sym like) is

  -- a value that was noted stays
  noted_stays : (vars : List ℕ) (es : List (ℕ × ℤ)) (var : ℕ) → value_in es var ≡ Some (v var) → value_in (note v es vars) var ≡ Some (v var)
  noted_stays [] es var is = is
  noted_stays (x ∷ vars) es var is = noted_stays vars (insert_entry nat_eq es x (v x)) var (value_in-insert es x (v x) var ∙ on (nat_eq var x) refl) where
    on : (b : Bool) → nat_eq var x ≡ b → cond b (Some (v x)) (value_in es var) ≡ Some (v var)
    on true same = ap (λ y. Some (v y)) (sym (eqb-true var x same))
    on false other = is

  -- a map that has each value that was noted on another gives the same to what was visited
  agree_on : (xs : List Ask) (es : List (ℕ × ℤ)) → Agrees w (note v es (visits_in xs)) → AgreeOn v w xs
  agree_on [] es agrees = tt
  agree_on (Visit var ∷ xs) es agrees =
      let noted : value_in (insert_entry nat_eq es var (v var)) var ≡ Some (v var) = value_in-insert es var (v var) var ∙ ap (λ b. cond b (Some (v var)) (value_in es var)) (eq-eqb var var refl) in
      (sym (agrees var (v var) (noted_stays (visits_in xs) (insert_entry nat_eq es var (v var)) var noted)), agree_on xs (insert_entry nat_eq es var (v var)) agrees)
  agree_on (Probe name values ∷ xs) es agrees = agree_on xs es agrees

-- a map that agrees with some reads, and gives to all else what another gives
overlay_agrees : (values : ℕ → ℤ) (reads : List (ℕ × ℤ)) → Agrees (overlay values reads) reads
overlay_agrees values reads var n is = ap (λ o. unwrap_or o (values var)) is

module _ (m : StepMeanings) (tests : Meanings) (tx : Tx) (reads : List (ℕ × ℤ)) (answers left : List Bool) where
  pub made_right : (o : Outcome) → HaveAnswered m tests tx reads answers → IsMadeOf (eval m tests.footprint reads tx (start_state answers)) left o → IsOutcome m tests tx reads (length answers) o
  made_right (Need var) gave e = λ values agrees.
      subst (Tells reads values (record { reads = []; left = answers }) (run m tests tx (start values)) (asks m tests tx (start values))) e (tells reads values m tests agrees tx (start_state answers) (gave values agrees))
  made_right (outcome.Probe probe) gave e = λ values agrees.
      subst (Tells reads values (record { reads = []; left = answers }) (run m tests tx (start values)) (asks m tests tx (start values))) e (tells reads values m tests agrees tx (start_state answers) (gave values agrees))
  made_right (Ended a) gave (e, blank) = (
    (λ values agrees.
        let t = seen values agrees in
        (t.0, t.1 ∙ note-valued values [] (visits_in (asks m tests tx (start values))))),
    record {
      reads = λ values agrees.
          let v = overlay values reads in
          let agree = on_both values agrees in
          (seen v (overlay_agrees values reads)).1 ∙ note_same v values [] (asks m tests tx (start v)) agree
          ∙ ap (λ xs. note values [] (visits_in xs)) (same v values m tests tx (start_state answers) agree).1 ∙ note-valued values [] (visits_in (asks m tests tx (start values)));
      ends = λ values agrees.
          let v = overlay values reads in
          let t = told v (overlay_agrees values reads) in
          ends_alike v values (run m tests tx (start v)) (run m tests tx (start values)) a (same v values m tests tx (start_state answers) (on_both values agrees)).0
          (told_ends reads v answers (run m tests tx (start v)) (asks m tests tx (start v)) left a.ending a refl blank t);
    },
  ) where
    told : (values : ℕ → ℤ) → Agrees values reads → Tells reads values (record { reads = []; left = answers }) (run m tests tx (start values)) (asks m tests tx (start values)) (ended_as a.ending (run_state_of a left))
    told values agrees =
        subst (Tells reads values (record { reads = []; left = answers }) (run m tests tx (start values)) (asks m tests tx (start values))) e (tells reads values m tests agrees tx (start_state answers) (gave values agrees))

    seen : (values : ℕ → ℤ) → Agrees values reads → (first_open reads (length answers) (asks m tests tx (start values)) ≡ None) × (a.reads.entries ≡ note values [] (visits_in (asks m tests tx (start values))))
    seen values agrees = told_reads reads values answers (run m tests tx (start values)) (asks m tests tx (start values)) a.ending (run_state_of a left) (told values agrees)

    on_both : (values : ℕ → ℤ) → Agrees values a.reads.entries → AgreeOn (overlay values reads) values (asks m tests tx (start (overlay values reads)))
    on_both values agrees =
        let v = overlay values reads in
        agree_on v values (asks m tests tx (start v)) [] (subst (Agrees values) (seen v (overlay_agrees values reads)).1 agrees)
