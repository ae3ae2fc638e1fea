-- What is told of each of a list, one after another.
use Rattle.std.proofs.Common.{◌≡◌, ℕ, ◌<◌, ◌+◌, List, [], ◌∷◌, ◌++◌, length, map, take, get_or, add-one, ap, sym, ◌∙◌, append_assoc}
use Rattle.std.proofs.lemmas.List.{map-append}
use Rattle.std.proofs.Math.Seq.{take-suc}

-- what is told of one more is pushed
pub told_of_one_more : {A B : Type 0} (f : A → B) (xs : List A) (i : ℕ) (x : A) (first old new : List B) (b : B)
    → i < length xs → x ≡ get_or xs i x → b ≡ f x → old ≡ first ++ map f (take i xs) → new ≡ old ++ b ∷ [] → new ≡ first ++ map f (take (i + 1) xs)
told_of_one_more f xs i x first old new b there at told before pushed =
    pushed ∙ (ap (λ l. l ++ b ∷ []) before ∙ (append_assoc first (map f (take i xs)) (b ∷ []) ∙ ap (λ l. first ++ l)
    (ap (λ y. map f (take i xs) ++ y ∷ []) told ∙ (sym (map-append f (take i xs) (x ∷ [])) ∙ ap (map f) (ap (λ y. take i xs ++ y ∷ []) at ∙ (sym (take-suc xs i x there) ∙ ap (λ k. take k xs) (sym (add-one i))))))))
