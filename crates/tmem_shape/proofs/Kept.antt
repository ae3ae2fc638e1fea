-- What holds of each before an index.
use Rattle.std.proofs.Common.{◌≡◌, ◌<◌, ◌≤◌, ◌+◌, ℕ, suc, List, [], ◌∷◌, All, length, take, get_or, sym, subst, arith}
use Rattle.std.proofs.Math.Seq.{take-suc}
use Rattle.std.proofs.lemmas.List.{take_all}
use Rattle.std.proofs.lemmas.List.Elements.{All-append, All-cons, All-nil}

module _ {X : Type 0} (P : X → Type 0) (xs : List X) (i : ℕ) where
  -- and of the one there
  pub all_up_to : (x : X) → i < length xs → x ≡ get_or xs i x → P x → All P (take i xs) → All P (take (i + 1) xs)
  all_up_to x within is p all =
      let next : suc i ≡ i + 1 = omega arith in
      subst (λ n. All P (take n xs)) next
      (subst (λ ys. All P ys) (sym (take-suc xs i x within))
      (All-append P (take i xs) (get_or xs i x ∷ []) all (All-cons P (get_or xs i x) [] (subst P is p) (All-nil P))))

  -- before the end
  pub all_at_end : length xs ≤ i → All P (take i xs) → All P xs
  all_at_end done all = subst (λ ys. All P ys) (take_all i xs done) all
