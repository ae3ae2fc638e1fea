-- What an evaluation comes to, whatever the steps mean, since they mean something.
use Rattle.std.proofs.Common.{◌≡◌, ℕ, ℤ, ◌≤◌, Bool, List, [], Option, None, sym, ap, ◌∙◌, subst, arith}
use Rattle.std.specs.Coded.{codes, Coded, Coded-set}
use Rattle.std.proofs.Props.{props}
use Rattle.std.proofs.lemmas.Map.Keys.{IsDistinct-prop}
use mathlib.Core.Logic.{∥∥₁_elim}
use mathlib.Core.Bool.{Bool-set}
use Rattle.tmem_effect.specs.declared.effect.Effect.{Effect}
use Rattle.tmem_tree.specs.declared.tx.Tx.{Tx}
use Rattle.tmem_tree.specs.StepAnswers.{StepMeanings}
use Rattle.tmem_effect.proofs.Laws.{AreApart-none}
use Rattle.tmem_tree.specs.Limits.{count, is_write, is_check, is_retire}
use Rattle.tmem_tree.specs.Plans.{PlanView, FitsVariables, FitsNames, HasSignatures}
use Rattle.tmem_tree.specs.Signatures.{names_of, footprint_in}
use Rattle.tmem_tree.specs.declared.signature.Signature.{Signature}
use Rattle.tmem_tree.proofs.Laws.{has_signatures}
use Rattle.tmem_tree.specs.Visited.{Visit}
use Rattle.tmem_effect.specs.State.{no_effect}
use Rattle.tmem_effect.specs.Writes.{value_in}
use Rattle.tmem_tentative.specs.Eval.{Flow, Stops, Retries, Leaves, Gives_up, Breaks, eval}
use Rattle.tmem_tentative.specs.Ends.{start_state, ended_as, IsEndOf, IsMadeOf}
use Rattle.tmem_tentative.specs.Fits.{IsFit, IsWithinVariables, IsNamed, IsFilled, IsBlankUnlessNormal, IsEndingFor}
use Rattle.tmem_tentative.specs.Logs.{run_state_of}
use Rattle.tmem_tentative.specs.Right.{IsBlank}
use Rattle.tmem_tentative.specs.CursorFacts.{IsBlankUnlessNormal-prop, IsEndingFor-prop}
use Rattle.tmem_tentative.specs.declared.attempt.Attempt.{Attempt}
use Rattle.tmem_tentative.specs.declared.attempt.Outcome.{Outcome}
use Rattle.tmem_tentative.specs.declared.attempt.Outcome.TheVariants.{Need, Ended}
use Rattle.tmem_tentative.specs.declared.attempt.Outcome.TheVariants as outcome
use Rattle.tmem_tentative.specs.declared.attempt.Ending.{Ending}
use Rattle.tmem_tentative.specs.declared.attempt.Ending.TheVariants.{Normal, Retry, Abort, Broken}
use Rattle.tmem_tentative.proofs.EvalFits.{IsGood, IsGoodFlow, good, Below, once_nil}
use Rattle.tmem_tentative.proofs.SignatureFootprints.{within_of}

-- what holds of each answer of an evaluation of this plan
pub record FitsPlan (reads : List (ℕ × ℤ)) (plan : PlanView) (o : Outcome) : Type 0 where
  pub fits : count is_write plan.tree ≤ 64 → count is_check plan.tree ≤ 8 → count is_retire plan.tree ≤ 8 → IsFit reads o
  pub within : (vars : ℕ) → FitsVariables vars plan → IsWithinVariables vars o
  pub named : (names : List (List ℕ)) → FitsNames names plan.tree → IsNamed names o
  pub filled : IsFilled plan.signatures o

value_coded : Coded (Option ℤ)
value_coded = hlevel codes

IsFit-prop : (reads : List (ℕ × ℤ)) (o : Outcome) → IsProp (IsFit reads o)
IsFit-prop reads (Need var) = Coded-set value_coded _ _
IsFit-prop reads (outcome.Probe probe) = hlevel props
IsFit-prop reads (Ended a) = hlevel (props, IsDistinct-prop, IsBlankUnlessNormal-prop)

IsWithin-prop : (vars : ℕ) (o : Outcome) → IsProp (IsWithinVariables vars o)
IsWithin-prop vars (Need var) = hlevel props
IsWithin-prop vars (outcome.Probe probe) = hlevel props
IsWithin-prop vars (Ended a) = hlevel props

IsNamed-prop : (names : List (List ℕ)) (o : Outcome) → IsProp (IsNamed names o)
IsNamed-prop names (Need var) = hlevel props
IsNamed-prop names (outcome.Probe probe) = Bool-set _ _
IsNamed-prop names (Ended a) = hlevel (props, Bool-set, IsEndingFor-prop)

IsFilled-prop : (signatures : List Signature) (o : Outcome) → IsProp (IsFilled signatures o)
IsFilled-prop signatures (Need var) = hlevel props
IsFilled-prop signatures (outcome.Probe probe) = hlevel (props, Bool-set)
IsFilled-prop signatures (Ended a) = hlevel props

FitsPlan-prop : (reads : List (ℕ × ℤ)) (plan : PlanView) (o : Outcome) → IsProp (FitsPlan reads plan o)
FitsPlan-prop reads plan o = hlevel (props, IsFit-prop, IsWithin-prop, IsNamed-prop, IsFilled-prop)

nothing : (Q R U : Type 0) (vars : ℕ) (names : List (List ℕ)) (w c r : ℕ) → IsGood Q R U vars names w c r no_effect
nothing Q R U vars names w c r = record {
  within = λ q k d h. absurd (omega arith);
  once = once_nil;
  few = omega arith;
  few_names = omega arith;
  few_retired = omega arith;
  known = λ x k d h. absurd (omega arith);
  known_too = λ x k d h. absurd (omega arith);
  apart = AreApart-none [];
}

-- a value that is needed is one that the reads lack
pub need_lacks : (m : StepMeanings) (footprint : List ℕ → List ℕ) (reads : List (ℕ × ℤ)) (tx : Tx) (answers : List Bool) (var : ℕ) → eval m footprint reads tx (start_state answers) ≡ Stops (Visit var) → value_in reads var ≡ None
need_lacks m footprint reads tx answers var e =
    let g = good ⊥ ⊥ ⊥ 0 [] m footprint reads (λ q. absurd q) tx 0 0 0 (count is_write tx) (count is_check tx) (count is_retire tx) (start_state answers) (omega arith) (omega arith) (omega arith) (λ q. absurd q) (λ x. absurd x) (λ x. absurd x) (λ q. absurd q) (nothing ⊥ ⊥ ⊥ 0 [] 0 0 0) in
    (subst (IsGoodFlow ⊥ ⊥ ⊥ 0 [] m footprint reads (count is_write tx) (count is_check tx) (count is_retire tx)) e g).1

module _ (m : StepMeanings) (reads : List (ℕ × ℤ)) (plan : PlanView) (answers left : List Bool) where
  module _ (vars : ℕ) (names : List (List ℕ)) where
    abbrev IsOfPlan : Effect → Type 0
    IsOfPlan =
        IsGood (FitsVariables vars plan) (HasSignatures names plan.tree) (FitsNames names plan.tree) vars names (count is_write plan.tree) (count is_check plan.tree) (count is_retire plan.tree)

    abbrev IsFlowOfPlan : Flow → Type 0
    IsFlowOfPlan =
        IsGoodFlow (FitsVariables vars plan) (HasSignatures names plan.tree) (FitsNames names plan.tree) vars names m (footprint_in plan.signatures) reads (count is_write plan.tree) (count is_check plan.tree) (count is_retire plan.tree)

    flow_of_plan : (f : Flow) → eval m (footprint_in plan.signatures) reads plan.tree (start_state answers) ≡ f → IsFlowOfPlan f
    flow_of_plan f e =
        subst IsFlowOfPlan e
        (good _ _ _ vars names m (footprint_in plan.signatures) reads (λ q name. within_of vars plan.signatures q.footprints name) plan.tree 0 0 0 _ _ _ (start_state answers) (omega arith) (omega arith) (omega arith) (λ q. q.named) (λ x. x) (λ x. x) (λ q k d h. absurd (omega arith)) (nothing _ _ _ vars names 0 0 0))

    end_of_plan : (end : Ending) (a : Attempt) → IsBlankUnlessNormal end a → IsFlowOfPlan (ended_as end (run_state_of a left)) → (FitsVariables vars plan → Below vars a.reads.entries) × IsOfPlan a.effect × (HasSignatures names plan.tree → IsEndingFor names end)
    end_of_plan Normal a blank g = (g.0, g.1, λ r. tt)
    end_of_plan Retry a blank g = (g, subst IsOfPlan (sym blank.effect) (nothing _ _ _ vars names _ _ _), λ r. tt)
    end_of_plan (Abort code) a blank g = (g.0, subst IsOfPlan (sym blank.effect) (nothing _ _ _ vars names _ _ _), λ r. tt)
    end_of_plan (Broken name) a blank g = (g.0, subst IsOfPlan (sym blank.effect) (nothing _ _ _ vars names _ _ _), g.1)

  made_fits : (o : Outcome) → HasSignatures (names_of plan.signatures) plan.tree → IsMadeOf (eval m (footprint_in plan.signatures) reads plan.tree (start_state answers)) left o → FitsPlan reads plan o
  made_fits (Need var) covered e = record {
    fits = λ few few_names few_retired. (flow_of_plan 0 [] _ e).1;
    within = λ vars fits. (flow_of_plan vars [] _ e).0 fits;
    named = λ names fits. tt;
    filled = tt;
  }
  made_fits (outcome.Probe probe) covered e = record {
    fits = λ few few_names few_retired. tt;
    within = λ vars fits. tt;
    named = λ names fits. (flow_of_plan 0 names _ e).0 (has_signatures names plan.tree fits);
    filled = let asks = flow_of_plan 0 (names_of plan.signatures) _ e in (asks.0 covered, asks.1);
  }
  made_fits (Ended a) covered (e, blank) = record {
    fits = λ few few_names few_retired.
        let g = (made 0 []).1 in (
          record {
            once = g.once;
            few = omega (arith, few, g.few);
            few_names = omega (arith, few_names, g.few_names);
            few_retired = omega (arith, few_retired, g.few_retired);
            apart = g.apart;
          },
          blank,
        );
    within = λ vars fits.
        let g = made vars [] in
        (g.0 fits, g.1.within fits);
    named = λ names fits.
        let g = made 0 names in
        let signatures = has_signatures names plan.tree fits in
        record { proposed = g.1.known signatures; retired = g.1.known_too fits; apart = g.1.apart; ending = g.2 signatures };
    filled = tt;
  } where
    made : (vars : ℕ) (names : List (List ℕ)) → (FitsVariables vars plan → Below vars a.reads.entries) × IsOfPlan vars names a.effect × (HasSignatures names plan.tree → IsEndingFor names a.ending)
    made vars names = end_of_plan vars names a.ending a blank (flow_of_plan vars names _ e)

-- what an evaluation comes to fits its plan, whatever the steps mean, since they mean something
pub made_fits_plan : {IsStated : StepMeanings → Type 0} → ∥ ((m : StepMeanings) × IsStated m) ∥₁ → {plan : PlanView} → HasSignatures (names_of plan.signatures) plan.tree → (reads : List (ℕ × ℤ)) (answers left : List Bool) (o : Outcome)
    → ((m : StepMeanings) → IsStated m → IsMadeOf (eval m (footprint_in plan.signatures) reads plan.tree (start_state answers)) left o) → FitsPlan reads plan o
made_fits_plan some {plan} covered reads answers left o made =
    ∥∥₁_elim some (FitsPlan-prop reads plan o) (λ p. made_fits p.0 reads plan answers left o covered (made p.0 p.1))

-- an attempt of a run that has ended
pub end_made : (f : Flow) (left : List Bool) (old new : Attempt) (end : Ending) → f ≡ ended_as end (run_state_of old left) → IsEndOf old end new → IsMadeOf f left (Ended new)
end_made f left old new Normal e is = subst (λ a. IsMadeOf f left (Ended a)) (sym is) (e, tt)
end_made f left old new Retry e is =
    (e ∙ ap (λ r. Retries (record { reads = r.entries; left = left })) (sym is.0) ∙ ap (λ d. ended_as d (run_state_of new left)) (sym is.1), subst (λ d. IsBlankUnlessNormal d new) (sym is.1) is.2)
end_made f left old new (Abort code) e is =
    (e ∙ ap (λ r. Leaves (Gives_up code) (record { reads = r.entries; left = left })) (sym is.0) ∙ ap (λ d. ended_as d (run_state_of new left)) (sym is.1), subst (λ d. IsBlankUnlessNormal d new) (sym is.1) is.2)
end_made f left old new (Broken name) e is =
    (e ∙ ap (λ r. Leaves (Breaks name) (record { reads = r.entries; left = left })) (sym is.0) ∙ ap (λ d. ended_as d (run_state_of new left)) (sym is.1), subst (λ d. IsBlankUnlessNormal d new) (sym is.1) is.2)

-- a copy is as good
pub copy_made : (f : Flow) (left : List Bool) (a b : Attempt) → b.reads.entries ≡ a.reads.entries → b.ending ≡ a.ending → b.registers ≡ a.registers → b.effect ≡ a.effect → IsMadeOf f left (Ended a) → IsMadeOf f left (Ended b)
copy_made f left a b reads end registers effect made = (cc, on a.ending b.ending end made.1) where
  blank : IsBlank a → IsBlank b
  blank h = record { registers = registers ∙ h.registers; effect = effect ∙ h.effect }

  on : (d e : Ending) → e ≡ d → IsBlankUnlessNormal d a → IsBlankUnlessNormal e b
  on d Normal is h = tt
  on d Retry is h = blank (subst (λ x. IsBlankUnlessNormal x a) (sym is) h)
  on d (Abort code) is h = blank (subst (λ x. IsBlankUnlessNormal x a) (sym is) h)
  on d (Broken name) is h = blank (subst (λ x. IsBlankUnlessNormal x a) (sym is) h)
