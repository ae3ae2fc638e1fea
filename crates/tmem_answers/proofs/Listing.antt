-- The texts of a list's elements, one after another.
use Rattle.std.proofs.Common.{◌≡◌, ℕ, ◌+◌, ◌<◌, List, [], ◌∷◌, ◌++◌, length, get_or, take, flat_map, sym, ap, ◌∙◌}
use Rattle.std.proofs.lemmas.List.{append-nil, take_more}
use Rattle.std.proofs.lemmas.List.Concat.{flat_map-append}

pub text_more : {X : Type 0} (text : X → List ℕ) (xs : List X) (i : ℕ) (x : X) → i < length xs → x ≡ get_or xs i x → flat_map text (take i xs) ++ text x ≡ flat_map text (take (i + 1) xs)
text_more text xs i x within is = sym (
    ap (flat_map text) (take_more xs i x within) ∙ flat_map-append text (take i xs) (get_or xs i x ∷ [])
    ∙ ap (λ (l : List ℕ). flat_map text (take i xs) ++ l) (append-nil (text (get_or xs i x)) ∙ ap text (sym is)))
