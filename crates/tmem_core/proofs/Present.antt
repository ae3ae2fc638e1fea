-- Values that were read, against the present ones.
use Rattle.std.proofs.Common.{◌≡◌, ℕ, ℤ, pos, Bool, true, false, not, ◌||◌, cond, List, [], ◌∷◌, Some, nat_eq, refl, sym, ap, ◌∙◌}
use Rattle.std.specs.Prelude.{slice_get}
use Rattle.std.specs.Ordering.{int_eq}
use Rattle.std.proofs.lemmas.Option.{get_or_from_slice_get}
use Rattle.std.proofs.lemmas.Bool.{eqb-true}
use Rattle.std.proofs.lemmas.Bool.Decides.{Decides-int_eq}
use Rattle.tmem_effect.specs.State.{State}
use Rattle.tmem_effect.specs.Writes.{value_in}
use Rattle.tmem_tentative.specs.Right.{Agrees}
use Rattle.tmem_core.specs.SettleAnswer.{has_changed}
use Rattle.tmem_core.specs.Verdict.{map_of}

-- the map has what stands there
pub map_of-there : (s : State) (var : ℕ) (n : ℤ) → slice_get s.values var ≡ Some n → map_of s var ≡ n
map_of-there s var n is = get_or_from_slice_get s.values var n (pos 0) is

-- a value that differs
pub stale_here : (s : State) (var : ℕ) (n m : ℤ) (rest : List (ℕ × ℤ)) → slice_get s.values var ≡ Some n → (n ≡ m → ⊥) → has_changed s ((var, m) ∷ rest) ≡ true
stale_here s var n m rest is differs = on (int_eq (map_of s var) m) refl where
  on : (b : Bool) → int_eq (map_of s var) m ≡ b → (not b || has_changed s rest) ≡ true
  on true e = absurd (differs (sym (map_of-there s var n is) ∙ (Decides-int_eq (map_of s var) m).0 e))
  on false e = refl

-- one that does not
pub stale_later : (s : State) (var : ℕ) (n m : ℤ) (rest : List (ℕ × ℤ)) → slice_get s.values var ≡ Some n → n ≡ m → has_changed s ((var, m) ∷ rest) ≡ has_changed s rest
stale_later s var n m rest is same =
    ap (λ b. not b || has_changed s rest) ((Decides-int_eq (map_of s var) m).1 (map_of-there s var n is ∙ same))

-- where none differs, the map agrees with the reads
pub agrees : (s : State) (reads : List (ℕ × ℤ)) → has_changed s reads ≡ false → Agrees (map_of s) reads
agrees s [] fresh var n is = cc
agrees s (r ∷ rs) fresh var n is =
    let parts = apart (int_eq (map_of s r.0) r.1) refl fresh in
    on (nat_eq var r.0) refl parts.0 (agrees s rs parts.1 var n) is
  where
    apart : (b : Bool) → int_eq (map_of s r.0) r.1 ≡ b → (not b || has_changed s rs) ≡ false → (map_of s r.0 ≡ r.1) × (has_changed s rs ≡ false)
    apart true e h = ((Decides-int_eq (map_of s r.0) r.1).0 e, h)
    apart false e h = cc

    on : (b : Bool) → nat_eq var r.0 ≡ b → map_of s r.0 ≡ r.1 → (value_in rs var ≡ Some n → map_of s var ≡ n) → cond b (Some r.1) (value_in rs var) ≡ Some n → map_of s var ≡ n
    on true e here rest h = let same : r.1 ≡ n = cc in ap (map_of s) (eqb-true var r.0 e) ∙ here ∙ same
    on false e here rest h = rest h
