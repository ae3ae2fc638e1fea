-- What is written of a list, and of counts.
use Rattle.std.proofs.Common.{◌≡◌, ℕ, List, [], ◌∷◌, ◌++◌, map, codes, append_assoc, refl, ap}
use Rattle.std.proofs.lemmas.List.Folds.{flat_map-map}
use Rattle.tmem_answers.specs.Answers.{texts_joined}

-- the texts of what a list shows
pub texts_of_map : {E X : Type 0} (text : X → List ℕ) (shown : E → X) (es : List E) → texts_joined text (map shown es) ≡ texts_joined (λ e. text (shown e)) es
texts_of_map text shown [] = refl
texts_of_map text shown (e ∷ es) = ap (λ rest. text (shown e) ++ rest) (flat_map-map (λ y. codes "," ++ text y) shown es)

-- eight counts that are written two by two
pub counts_text : (a m b n c o d p e q f r g s h t i : List ℕ)
    → a ++ (m ++ (b ++ n)) ++ (c ++ (o ++ (d ++ p)) ++ (e ++ (q ++ (f ++ r)) ++ (g ++ (s ++ (h ++ (t ++ i)))))) ≡ a ++ m ++ b ++ n ++ c ++ o ++ d ++ p ++ e ++ q ++ f ++ r ++ g ++ s ++ h ++ t ++ i
counts_text a m b n c o d p e q f r g s h t i = simp append_assoc

-- a number at a key, and an array
pub end_text : (q k c n b o j e : List ℕ) → q ++ (k ++ (c ++ (n ++ ((b ++ o) ++ (j ++ e))))) ≡ q ++ k ++ c ++ n ++ b ++ (o ++ j ++ e)
end_text q k c n b o j e = simp append_assoc

-- the first line
pub opened_text : (a n b v c j e : List ℕ) → a ++ (n ++ (b ++ (v ++ (c ++ (j ++ e))))) ≡ a ++ n ++ b ++ v ++ c ++ j ++ e
opened_text a n b v c j e = simp append_assoc
