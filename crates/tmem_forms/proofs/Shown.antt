-- A test of what a map shows of the elements of a list.
use Rattle.std.proofs.Common.{◌≡◌, Bool, ◌||◌, List, [], ◌∷◌, map, refl, ap}
use Rattle.std.specs.List.{list_any}

pub any_of_map : {E X : Type 0} (p : X → Bool) (f : E → X) (es : List E) → list_any p (map f es) ≡ list_any (λ e. p (f e)) es
any_of_map p f [] = refl
any_of_map p f (e ∷ es) = ap (λ b. p (f e) || b) (any_of_map p f es)
