-- What holds of those before an index, and not with the one there.
use Rattle.std.proofs.Common.{◌≡◌, ◌<◌, ◌+◌, ℕ, Bool, true, List, All, Some, Decides, length, take, get_or, sym, ap, ◌∙◌, subst, arith}
use Rattle.std.specs.List.{list_any}
use Rattle.std.proofs.lemmas.List.{get_or-take, length-take-le, take-take}
use Rattle.std.proofs.lemmas.List.Elements.{All-get_or}
use Rattle.std.proofs.lemmas.Option.{slice_get-get_or}
use Rattle.tmem_fault.specs.Distinct.{AreDistinct}
use Rattle.tmem_forms.proofs.Laws.{not_distinct}
use Rattle.tmem_shape.specs.Shapes.{BreaksFirst}

module _ {X : Type 0} (xs : List X) (i : ℕ) (x : X) (within : i < length xs) (is : x ≡ get_or xs i x) where
  last_there : i < length (take (i + 1) xs)
  last_there = let long : length (take (i + 1) xs) ≡ i + 1 = length-take-le (i + 1) xs (omega arith) in omega arith

  last_is : get_or (take (i + 1) xs) i x ≡ x
  last_is = get_or-take (i + 1) xs i x (omega arith) ∙ sym is

  -- that each is so breaks at one that is not
  pub all_broken : (P : X → Type 0) → All P (take i xs) → ¬ P x → BreaksFirst (All P) xs i
  all_broken P before other =
      (before, within, λ all. other (subst P last_is (All-get_or P (take (i + 1) xs) i x last_there all)))

  -- that no two are the same breaks at one that an earlier one equals
  pub distinct_broken : (eq : X → X → Bool) → ((a b : X) → Decides (eq a b) (a ≡ b)) → AreDistinct (take i xs) → list_any (λ y. eq y x) (take i xs) ≡ true → BreaksFirst AreDistinct xs i
  distinct_broken eq same before some =
      (before, within, not_distinct eq same (take (i + 1) xs) i x (slice_get-get_or (take (i + 1) xs) i x last_there ∙ ap Some last_is) (ap (list_any (λ y. eq y x)) (take-take i (i + 1) xs (omega arith)) ∙ some))
