-- That nothing stands twice in a list.
use Rattle.std.specs.Prelude.{◌≢◌, List, AllPairs}

-- no element equals a later one
abbrev pub AreDistinct : {X : Type 0} → List X → Type 0
AreDistinct xs = AllPairs (λ x y. x ≢ y) xs

-- that is a fact: it has one proof at most
pub AreDistinct-prop : {X : Type 0} (xs : List X) → IsProp (AreDistinct xs)
AreDistinct-prop xs = hlevel
