-- What a cursor hands out is as good as what it holds.
use Rattle.std.proofs.Common.{◌≡◌, ℕ, ◌<◌, true, List, [], length, All, refl, sym, subst}
use Rattle.std.specs.Map.{keys_of}
use Rattle.tmem_invariants.specs.Meanings.{Meanings}
use Rattle.tmem_effect.specs.Names.{has_name, AreApart}
use Rattle.tmem_tree.specs.declared.signature.Signature.{Signature}
use Rattle.tmem_tree.specs.declared.tx.Tx.{Tx}
use Rattle.tmem_tree.specs.StepAnswers.{StepMeanings}
use Rattle.tmem_tentative.specs.declared.attempt.Attempt.{Attempt}
use Rattle.tmem_tentative.specs.declared.attempt.Progress.{Progress}
use Rattle.tmem_tentative.specs.declared.attempt.Progress.TheVariants.{Need, Probe, Ended}
use Rattle.tmem_tentative.specs.declared.cursor.Cursor.{Cursor}
use Rattle.tmem_tentative.specs.Cursors.{IsAt, Answered, given, answers, unused, attempt_of, outcome_of, outcome_with}
use Rattle.tmem_tentative.specs.Ends.{ended}
use Rattle.tmem_tentative.specs.Fits.{IsFit, IsPlansEffect, IsWithinVariables, IsNamed, IsEndingFor, IsFilled}
use Rattle.tmem_tentative.specs.Right.{IsOutcome}
use Rattle.tmem_tentative.proofs.CursorStands.{at_made, at_right}
use Rattle.tmem_tentative.proofs.MadeOutcomes.{copy_made}
use Rattle.tmem_tentative.proofs.RightOutcomes.{made_right}

module _ (cursor : Cursor) (a : Attempt) (reads : a.reads.entries ≡ given cursor) (ending : a.ending ≡ (attempt_of cursor).ending) (registers : a.registers ≡ (attempt_of cursor).registers) (effect : a.effect ≡ (attempt_of cursor).effect) where
  pub handed_right : (m : StepMeanings) (tests : Meanings) (plan : Tx) (p : Progress) → IsAt m tests plan cursor → Answered cursor p → IsOutcome m tests plan (given cursor) (length (answers cursor)) (outcome_with a cursor p)
  handed_right m tests plan (Need var) at is = at_right m tests plan cursor (Need var) at is
  handed_right m tests plan Probe at is = at_right m tests plan cursor Probe at is
  handed_right m tests plan Ended at is =
      made_right m tests plan (given cursor) (answers cursor) (unused cursor) (outcome_with a cursor Ended) at.answered
      (copy_made _ (unused cursor) (attempt_of cursor) a reads ending registers effect (at_made m tests.footprint plan cursor Ended at.stands is))

  pub handed_fits : (p : Progress) → IsFit (given cursor) (outcome_of cursor p) → IsFit (given cursor) (outcome_with a cursor p)
  handed_fits (Need var) is = is
  handed_fits Probe is = is
  handed_fits Ended is =
      (subst IsPlansEffect (sym effect) is.0, (copy_made (ended (attempt_of cursor) []) [] (attempt_of cursor) a reads ending registers effect (refl, is.1)).1)

  pub handed_within : (vars : ℕ) (p : Progress) → IsWithinVariables vars (outcome_of cursor p) → IsWithinVariables vars (outcome_with a cursor p)
  handed_within vars (Need var) is = is
  handed_within vars Probe is = is
  handed_within vars Ended is =
      (subst (λ es. All (λ var. var < vars) (keys_of es)) (sym reads) is.0, subst (λ e. All (λ var. var < vars) (keys_of e.writes)) (sym effect) is.1)

  pub handed_named : (names : List (List ℕ)) (p : Progress) → IsNamed names (outcome_of cursor p) → IsNamed names (outcome_with a cursor p)
  handed_named names (Need var) is = is
  handed_named names Probe is = is
  handed_named names Ended is = record {
    proposed = subst (λ e. All (λ name. has_name names name ≡ true) e.names) (sym effect) is.proposed;
    retired = subst (λ e. All (λ name. has_name names name ≡ true) e.retired) (sym effect) is.retired;
    apart = subst (λ e. AreApart e.names e.retired) (sym effect) is.apart;
    ending = subst (IsEndingFor names) (sym ending) is.ending;
  }

  pub handed_filled : (signatures : List Signature) (p : Progress) → IsFilled signatures (outcome_of cursor p) → IsFilled signatures (outcome_with a cursor p)
  handed_filled signatures (Need var) is = is
  handed_filled signatures Probe is = is
  handed_filled signatures Ended is = tt
