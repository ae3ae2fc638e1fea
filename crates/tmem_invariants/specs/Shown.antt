-- What a function of names gives, where each element of a list agrees with it.
use Rattle.std.proofs.Common.{◌≡◌, zero, suc, List, [], ◌∷◌, length, map, All, refl, sym, ap, ◌∙◌}
use Rattle.std.proofs.Math.Nat.{suc-le-suc_iff, zero-lt-suc}

pub map_by_name : {E N X : Type 0} (name : E → N) (shows : E → X) (f : N → X) (es : List E) → All (λ e. shows e ≡ f (name e)) es → map f (map name es) ≡ map shows es
map_by_name name shows f [] all = refl
map_by_name name shows f (e ∷ es) all =
    ap (λ x. x ∷ map f (map name es)) (sym (all zero e (zero-lt-suc (length es))))
    ∙ ap (λ xs. shows e ∷ xs) (map_by_name name shows f es (λ k d within. all (suc k) d (suc-le-suc_iff.1 within)))
