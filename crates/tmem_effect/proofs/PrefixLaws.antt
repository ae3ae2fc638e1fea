-- Laws of prefixes.
use Rattle.std.proofs.Common.{◌≡◌, ◌≤◌, List, ◌++◌, length, take, drop, refl, ap, sym, ◌∙◌, arith, length-append}
use Rattle.std.proofs.lemmas.List.{take_all, take_at, take-append-drop, take-take}
use Rattle.tmem_effect.specs.Prefix.{IsPrefix}

-- a list is a prefix of each that goes on from it
pub IsPrefix-append : {X : Type 0} (xs ys : List X) → IsPrefix xs (xs ++ ys)
IsPrefix-append xs ys = take_at xs ys (length xs) refl

-- behind a prefix stands a rest
pub IsPrefix-rest : {X : Type 0} (xs ys : List X) → IsPrefix xs ys → ys ≡ xs ++ drop (length xs) ys
IsPrefix-rest xs ys begins = sym (take-append-drop (length xs) ys) ∙ ap (λ front. front ++ drop (length xs) ys) begins

pub IsPrefix-self : {X : Type 0} (xs : List X) → IsPrefix xs xs
IsPrefix-self xs = take_all (length xs) xs (omega arith)

-- a prefix is no longer than the whole
pub IsPrefix-length : {X : Type 0} (xs ys : List X) → IsPrefix xs ys → length xs ≤ length ys
IsPrefix-length xs ys begins = omega (arith, ap length (take-append-drop (length xs) ys), length-append (take (length xs) ys) (drop (length xs) ys), ap length begins)

pub IsPrefix-trans : {X : Type 0} (xs ys zs : List X) → IsPrefix xs ys → IsPrefix ys zs → IsPrefix xs zs
IsPrefix-trans xs ys zs first second = sym (take-take (length xs) (length ys) zs (IsPrefix-length xs ys first)) ∙ (ap (take (length xs)) second ∙ first)
