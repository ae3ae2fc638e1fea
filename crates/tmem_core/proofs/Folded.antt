-- A state as the fold of what was committed, of which the last ones wait.
use Rattle.std.proofs.Common.{◌≡◌, ℕ, ◌+◌, ◌-◌, List, [], ◌∷◌, ◌++◌, length, drop, refl, sym, ap, ◌∙◌, subst, arith}
use Rattle.std.proofs.lemmas.List.{drop-append-le, drop-drop}
use Rattle.std.proofs.Math.Seq.{drop-nil}
use mathlib.Core.Logic.{∥∥₁_map}
use Rattle.tmem_effect.specs.State.{State, apply, IsWithin}
use Rattle.tmem_effect.specs.declared.effect.Effect.{Effect}
use Rattle.tmem_effect.proofs.Laws.{fold-push, count-fold, StaysWithin-push}
use Rattle.tmem_core.specs.History.{IsFolded}

-- nothing was committed
pub folded-none : (s : State) → IsWithin s → ∥ IsFolded s [] s.count [] s ∥₁
folded-none s within = ∣ record { folds = refl; within = within; late = omega arith; waits = drop-nil (s.count - s.count) } ∣₁

module _ (opened : State) (all : List Effect) (durable : ℕ) (waiting : List Effect) (s : State) (is : ∥ IsFolded opened all durable waiting s ∥₁) where
  -- one effect more, within the limits
  pub folded-push : (e : Effect) → s.count ≡ durable + length waiting → IsWithin (apply s e) → ∥ IsFolded opened (all ++ e ∷ []) durable (waiting ++ e ∷ []) (apply s e) ∥₁
  folded-push e counted within =
      ∥∥₁_map is (λ f. record {
        folds = fold-push opened all e ∙ ap (λ t. apply t e) f.folds;
        within = StaysWithin-push opened all e f.within (subst (λ (t : State). IsWithin (apply t e)) (sym f.folds) within);
        late = f.late;
        waits = drop-append-le (durable - opened.count) all (e ∷ []) (omega (arith, ap State.count f.folds, count-fold opened all, counted, f.late))
            ∙ ap (λ es. es ++ e ∷ []) f.waits;
      })

  -- the oldest ones do not wait any more
  pub folded-drop : (k : ℕ) → ∥ IsFolded opened all (durable + k) (drop k waiting) s ∥₁
  folded-drop k =
      ∥∥₁_map is (λ f. record {
        folds = f.folds;
        within = f.within;
        late = omega (arith, f.late);
        waits =
            let far : durable + k - opened.count ≡ durable - opened.count + k = omega (arith, f.late) in
            ap (λ n. drop n all) far ∙ sym (drop-drop k (durable - opened.count) all) ∙ ap (drop k) f.waits;
      })
