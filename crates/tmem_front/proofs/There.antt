-- Variables that are there.
use Rattle.std.proofs.Common.{◌≡◌, ℕ, ◌<◌, false, List, [], ◌∷◌, Result, Ok, Err, IfOk, leb-false}
use Rattle.std.specs.Prelude.{nat_le}
use Rattle.std.specs.List.{All, list_any}
use Rattle.std.proofs.lemmas.Bool.{or_parts}
use Rattle.std.proofs.lemmas.List.Elements.{All-nil, All-cons}

-- where none is past the last of them, each is among them
pub all_there : (n : ℕ) (xs : List ℕ) → list_any (λ var. nat_le n var) xs ≡ false → All (λ var. var < n) xs
all_there n [] none = All-nil (λ var. var < n)
all_there n (x ∷ xs) none =
    let parts = or_parts (nat_le n x) (list_any (λ var. nat_le n var) xs) none in
    All-cons (λ var. var < n) x xs (leb-false n x parts.0) (all_there n xs parts.1)

-- what holds anyway holds where there is an answer
pub where_ok : {A E P : Type 0} (r : Result A E) → P → IfOk r (λ _. P)
where_ok (Ok a) p = p
where_ok (Err e) p = tt
