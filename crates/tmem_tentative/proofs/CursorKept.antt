-- A cursor that is as it was stands where it stood.
use Rattle.std.proofs.Common.{◌≡◌, ℕ, ℤ, Bool, List, [], nat_eq, sym, ap, subst}
use Rattle.indexmap.specs.IndexMap.{insert_entry}
use Rattle.tmem_invariants.specs.Meanings.{Meanings}
use Rattle.tmem_tree.specs.declared.tx.Tx.{Tx}
use Rattle.tmem_tree.specs.Plans.{PlanView}
use Rattle.tmem_tree.specs.Signatures.{footprint_in}
use Rattle.tmem_tree.specs.StepAnswers.{StepMeanings}
use Rattle.tmem_tree.specs.Visited.{Visit, Probe}
use Rattle.tmem_tentative.specs.declared.attempt.Outcome.TheVariants as outcome
use Rattle.tmem_tentative.specs.declared.attempt.Probe.{Probe as Asked}
use Rattle.tmem_tentative.specs.declared.cursor.Cursor.{Cursor}
use Rattle.tmem_tentative.specs.declared.cursor.Stage.{Stage}
use Rattle.tmem_tentative.specs.declared.cursor.Stage.TheVariants.{Going, Waits, Tests, Ended}
use Rattle.tmem_tentative.specs.Ends.{start_state, IsMadeOf}
use Rattle.tmem_tentative.specs.Eval.{eval}
use Rattle.tmem_tentative.specs.Places.{Place}
use Rattle.tmem_tentative.specs.Right.{HaveAnswered}
use Rattle.tmem_tentative.specs.Cursors.{IsAt, StandsIn, IsAtStage, IsAsBefore, MayGoOn, EvaluationStandsAt, AsksFor, given, answers, unused, place, probe_of, attempt_of}
use Rattle.tmem_tentative.proofs.MadeOutcomes.{copy_made}

module _ (old new : Cursor) (same : IsAsBefore old new) where
  -- what holds of its place, of what it was given and answered, and of its test
  again : (P : Place → List (ℕ × ℤ) → List Bool → List Bool → Asked → Type 0) → P (place old) (given old) (answers old) (unused old) (probe_of old) → P (place new) (given new) (answers new) (unused new) (probe_of new)
  again P here =
      subst (λ p. P p (given new) (answers new) (unused new) (probe_of new)) (sym same.place)
      (subst (λ g. P (place old) g (answers new) (unused new) (probe_of new)) (sym same.given)
      (subst (λ a. P (place old) (given old) a (unused new) (probe_of new)) (sym same.answers)
      (subst (λ u. P (place old) (given old) (answers old) u (probe_of new)) (sym same.unused)
      (subst (λ t. P (place old) (given old) (answers old) (unused old) t) (sym same.probe) here))))

  module _ (m : StepMeanings) (footprint : List ℕ → List ℕ) (plan : Tx) where
    stays_at_stage : (stage : Stage) → IsAtStage m footprint plan stage old → IsAtStage m footprint plan stage new
    stays_at_stage Going at =
        again (λ p reads answers left probe. MayGoOn plan p × EvaluationStandsAt m footprint plan answers p reads (record { reads = reads; left = left })) at
    stays_at_stage (Waits var) at =
        again (λ p reads answers left probe. MayGoOn plan p × AsksFor m footprint plan reads answers (Visit var) × ((n : ℤ) → EvaluationStandsAt m footprint plan answers p reads (record { reads = insert_entry nat_eq reads var n; left = left }))) at
    stays_at_stage Tests at =
        again (λ p reads answers left probe. MayGoOn plan p × AsksFor m footprint plan reads answers (Probe probe.name probe.values) × EvaluationStandsAt m footprint plan answers p reads (record { reads = reads; left = left }) × (left ≡ [])) at
    stays_at_stage Ended at =
        copy_made (eval m footprint (given new) plan (start_state (answers new))) (unused new) (attempt_of old) (attempt_of new) same.given same.ending (ap (λ (p : Place). p.registers) same.place) (ap (λ (p : Place). p.effect) same.place)
        (again (λ p reads answers left probe. IsMadeOf (eval m footprint reads plan (start_state answers)) left (outcome.Ended (attempt_of old))) at)

    pub stays : IsAtStage m footprint plan old.stage old → IsAtStage m footprint plan new.stage new
    stays at = subst (λ s. IsAtStage m footprint plan s new) (sym same.stage) (stays_at_stage old.stage at)

  pub stays_in : (m : StepMeanings) (plan : PlanView) → StandsIn m plan old → StandsIn m plan new
  stays_in m plan stands = stays m (footprint_in plan.signatures) plan.tree stands

  pub stays_at : (m : StepMeanings) (tests : Meanings) (plan : Tx) → IsAt m tests plan old → IsAt m tests plan new
  stays_at m tests plan at = record {
    stands = stays m tests.footprint plan at.stands;
    answered = again (λ p reads answers left probe. HaveAnswered m tests plan reads answers) at.answered;
  }
