-- What stands at an index of a list, and which variables writes are over.
use Rattle.std.proofs.Common.{◌≡◌, ℕ, ℤ, ◌<◌, List, Some, All, subst, arith}
use Rattle.std.specs.Prelude.{slice_get}
use Rattle.std.specs.Map.{keys_of}
use Rattle.std.proofs.lemmas.List.{get_or-map, length-map}
use Rattle.std.proofs.lemmas.Option.{get_or_from_slice_get, slice_get_within}

-- what holds of all holds of it
pub All-there : {X : Type 0} (P : X → Type 0) (xs : List X) (k : ℕ) (x : X) → All P xs → slice_get xs k ≡ Some x → P x
All-there P xs k x all is = subst P (get_or_from_slice_get xs k x x is) (all k x (slice_get_within xs k x is))

-- each variable is one of so many, by the writes
pub writes_within : (vars : ℕ) (ws : List (ℕ × ℤ)) → All (λ var. var < vars) (keys_of ws) → All (λ (w : ℕ × ℤ). w.0 < vars) ws
writes_within vars ws all k d below =
    subst (λ v. v < vars) (get_or-map (λ (w : ℕ × ℤ). w.0) ws k d d.0 below) (all k d.0 (omega (arith, below, length-map ws (λ (w : ℕ × ℤ). w.0))))
