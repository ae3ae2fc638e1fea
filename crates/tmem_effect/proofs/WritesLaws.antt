-- Where a write stands, and what that place says of `value_in` and `with_write`.
use Rattle.std.proofs.Common.{◌≡◌, ◌≢◌, ℕ, ◌+◌, ◌<◌, ◌==◌, ℤ, Bool, true, false, not, cond, List, [], ◌∷◌, ◌++◌, length, get_or, set, Option, Some, None, is_some, IsNone, position, find, option_map, ◌||◌, nat_lt, All, refl, ap, sym, ◌∙◌, suc, zero, arith, length-append, length-set}
use Rattle.std.proofs.Math.Numerals.{one-add}
use Prim.Native.Nat.compare
use Rattle.std.specs.Prelude.{FitsSigned}
use Rattle.std.specs.Int.{w64}
use Rattle.std.specs.List.{position_or_len, list_any}
use Rattle.std.proofs.lemmas.Bool.Decides.{nat_tests}
use Rattle.std.proofs.lemmas.List.{map-append, map-set, set-get_or, get_or-map}
use Rattle.std.proofs.lemmas.List.Elements.{All-push, All-set}
use Rattle.std.proofs.lemmas.List.Quantifiers.{all_pairs_push, position-Some}
use Rattle.tmem_effect.specs.Writes.{variables, value_in, with_write, AreWrites}

abbrev writes_var : ℕ → ℕ × ℤ → Bool
writes_var var w = var == w.0

with_write-cases : (ws : List (ℕ × ℤ)) (var : ℕ) (value : ℤ) →
    with_write ws var value ≡ cond (nat_lt (position_or_len (writes_var var) ws) (length ws)) (set ws (position_or_len (writes_var var) ws) (var, value)) (ws ++ (var, value) ∷ [])
with_write-cases [] var value = refl
with_write-cases (w ∷ ws) var value = step (var == w.0) (with_write-cases ws var value)
  where
    k : ℕ
    k = position_or_len (writes_var var) ws

    step : (b : Bool) →
        with_write ws var value ≡ cond (nat_lt k (length ws)) (set ws k (var, value)) (ws ++ (var, value) ∷ []) →
        cond b ((var, value) ∷ ws) (w ∷ with_write ws var value)
        ≡ cond (nat_lt (cond (not b) (1 + k) 0) (length (w ∷ ws))) (set (w ∷ ws) (cond (not b) (1 + k) 0) (var, value)) ((w ∷ ws) ++ (var, value) ∷ [])
    step true h = grind (arith, nat_tests)
    step false h = rw (h, one-add, compare.suc-suc) (cases (nat_lt k (length ws)))
      where
        cases : (b : Bool) → w ∷ cond b (set ws k (var, value)) (ws ++ (var, value) ∷ []) ≡ cond b (w ∷ set ws k (var, value)) ((w ∷ ws) ++ (var, value) ∷ [])
        cases true = refl
        cases false = refl

-- the value beside a variable is that of the first write of it
pub value_in-find : (ws : List (ℕ × ℤ)) (var : ℕ) → value_in ws var ≡ option_map (λ (w : ℕ × ℤ). w.1) (find (writes_var var) ws)
value_in-find [] var = refl
value_in-find (w ∷ ws) var = step (var == w.0) (value_in-find ws var)
  where
    step : (b : Bool) → value_in ws var ≡ option_map (λ (w : ℕ × ℤ). w.1) (find (writes_var var) ws) →
        cond b (Some w.1) (value_in ws var) ≡ option_map (λ (w : ℕ × ℤ). w.1) (cond b (Some w) (find (writes_var var) ws))
    step true h = refl
    step false h = h

-- a variable has a value exactly if it is written
pub is_some-value_in : (ws : List (ℕ × ℤ)) (var : ℕ) → is_some (value_in ws var) ≡ list_any (writes_var var) ws
is_some-value_in [] var = refl
is_some-value_in (w ∷ ws) var = step (var == w.0) (is_some-value_in ws var)
  where
    step : (b : Bool) → is_some (value_in ws var) ≡ list_any (writes_var var) ws →
        is_some (cond b (Some w.1) (value_in ws var)) ≡ (b || list_any (writes_var var) ws)
    step true h = refl
    step false h = h

list_any-cases : (ws : List (ℕ × ℤ)) (var : ℕ) → list_any (writes_var var) ws ≡ nat_lt (position_or_len (writes_var var) ws) (length ws)
list_any-cases [] var = refl
list_any-cases (w ∷ ws) var = step (var == w.0) (list_any-cases ws var)
  where
    k : ℕ
    k = position_or_len (writes_var var) ws

    step : (b : Bool) → list_any (writes_var var) ws ≡ nat_lt k (length ws) →
        (b || list_any (writes_var var) ws) ≡ nat_lt (cond (not b) (1 + k) 0) (length (w ∷ ws))
    step true h = grind (arith, nat_tests)
    step false h = rw (h, one-add, compare.suc-suc) refl

-- a variable that stands nowhere has no value
pub is_some-value_in-none : (ws : List (ℕ × ℤ)) (var : ℕ) → position (writes_var var) ws ≡ None → IsNone (value_in ws var)
is_some-value_in-none ws var none = is_some-value_in ws var ∙ list_any-cases ws var ∙ chosen (nat_lt (position_or_len (writes_var var) ws) (length ws)) none
  where
    k : ℕ
    k = position_or_len (writes_var var) ws

    chosen : (b : Bool) → cond b (Some k) None ≡ None → b ≡ false
    chosen true h = cc
    chosen false h = refl

-- a variable that stands there keeps its place
pub with_write-at : (ws : List (ℕ × ℤ)) (var at : ℕ) (value : ℤ) → position (writes_var var) ws ≡ Some at → with_write ws var value ≡ set ws at (var, value)
with_write-at ws var at value found = with_write-cases ws var value ∙ chosen (nat_lt (position_or_len (writes_var var) ws) (length ws)) found
  where
    k : ℕ
    k = position_or_len (writes_var var) ws

    chosen : (b : Bool) → cond b (Some k) None ≡ Some at → cond b (set ws k (var, value)) (ws ++ (var, value) ∷ []) ≡ set ws at (var, value)
    chosen true h = let e : k ≡ at = cc in rw e refl
    chosen false h = cc

-- one that does not comes last
pub with_write-none : (ws : List (ℕ × ℤ)) (var : ℕ) (value : ℤ) → position (writes_var var) ws ≡ None → with_write ws var value ≡ ws ++ (var, value) ∷ []
with_write-none ws var value none = with_write-cases ws var value ∙ chosen (nat_lt (position_or_len (writes_var var) ws) (length ws)) none
  where
    k : ℕ
    k = position_or_len (writes_var var) ws

    chosen : (b : Bool) → cond b (Some k) None ≡ None → cond b (set ws k (var, value)) (ws ++ (var, value) ∷ []) ≡ ws ++ (var, value) ∷ []
    chosen true h = cc
    chosen false h = refl

-- a variable with no value is not written
pub variables-apart : (ws : List (ℕ × ℤ)) (var : ℕ) → IsNone (value_in ws var) → All (λ v. v ≢ var) (variables ws)
variables-apart [] var none k d below = elim below [ ]
variables-apart (w ∷ ws) var none zero d below = λ same. first (var == w.0) (grind (arith, nat_tests)) none
  where
    first : (b : Bool) → b ≡ true → IsNone (cond b (Some w.1) (value_in ws var)) → ⊥
    first true e h = cc
    first false e h = cc
variables-apart (w ∷ ws) var none (suc k) d below = variables-apart ws var (rest (var == w.0) none) k d (omega arith)
  where
    rest : (b : Bool) → IsNone (cond b (Some w.1) (value_in ws var)) → IsNone (value_in ws var)
    rest true h = cc
    rest false h = h

-- a variable that is none of those has no value
pub value_in-absent : (ws : List (ℕ × ℤ)) (var : ℕ) → All (λ v. v ≢ var) (variables ws) → IsNone (value_in ws var)
value_in-absent [] var apart = refl
value_in-absent (w ∷ ws) var apart = by (var == w.0) refl (value_in-absent ws var (λ k d below. apart (suc k) d (omega arith)))
  where
    by : (b : Bool) → (var == w.0) ≡ b → IsNone (value_in ws var) → IsNone (cond b (Some w.1) (value_in ws var))
    by true is rest = absurd (apart 0 0 (omega arith) (grind (arith, nat_tests)))
    by false is rest = rest

-- a write of a variable that stands there keeps the writes well formed
pub AreWrites-at : (ws : List (ℕ × ℤ)) (var at : ℕ) (value : ℤ) → position (writes_var var) ws ≡ Some at → FitsSigned w64 value → AreWrites ws → AreWrites (set ws at (var, value))
AreWrites-at ws var at value found fits are =
    let stands = position-Some (writes_var var) ws at (var, value) found in
    let there : get_or (variables ws) at var ≡ var = get_or-map (λ (w : ℕ × ℤ). w.0) ws at (var, value) var stands.0 ∙ (grind (arith, nat_tests, stands.1)) in
    let same : variables (set ws at (var, value)) ≡ variables ws =
    map-set (λ (w : ℕ × ℤ). w.0) ws at (var, value) ∙ ap (λ v. set (variables ws) at v) (sym there) ∙ set-get_or (variables ws) at var in
    record { few = omega (arith, length-set ws at (var, value)); distinct = rw same are.distinct; fits = All-set (λ (w : ℕ × ℤ). FitsSigned w64 w.1) ws at (var, value) fits are.fits }

-- so does a write of another, where there is room
pub AreWrites-push : (ws : List (ℕ × ℤ)) (var : ℕ) (value : ℤ) → IsNone (value_in ws var) → length ws < 64 → FitsSigned w64 value → AreWrites ws → AreWrites (ws ++ (var, value) ∷ [])
AreWrites-push ws var value none room fits are =
    record {
      few = omega (arith, length-append ws ((var, value) ∷ []));
      distinct = rw (map-append (λ (w : ℕ × ℤ). w.0) ws ((var, value) ∷ [])) (all_pairs_push (λ x y. x ≢ y) (variables ws) var are.distinct (variables-apart ws var none));
      fits = All-push (λ (w : ℕ × ℤ). FitsSigned w64 w.1) ws (var, value) are.fits fits;
    }

-- a variable has the value of the last write of it
pub value_in-with_write_same : (ws : List (ℕ × ℤ)) (var : ℕ) (value : ℤ) → value_in (with_write ws var value) var ≡ Some value
value_in-with_write_same [] var value = own (var == var) (grind (arith, nat_tests))
  where
    own : (b : Bool) → b ≡ true → cond b (Some value) None ≡ Some value
    own true is = refl
    own false is = cc
value_in-with_write_same (w ∷ ws) var value = by (var == w.0) refl (value_in-with_write_same ws var value)
  where
    own : (b : Bool) (o : Option ℤ) → b ≡ true → cond b (Some value) o ≡ Some value
    own true o is = refl
    own false o is = cc

    other : (b : Bool) (o : Option ℤ) → b ≡ false → o ≡ Some value → cond b (Some w.1) o ≡ Some value
    other true o is h = cc
    other false o is h = h

    by : (b : Bool) → (var == w.0) ≡ b → value_in (with_write ws var value) var ≡ Some value →
        value_in (cond b ((var, value) ∷ ws) (w ∷ with_write ws var value)) var ≡ Some value
    by true is h = own (var == var) (value_in ws var) (grind (arith, nat_tests))
    by false is h = other (var == w.0) (value_in (with_write ws var value) var) is h

-- a write leaves the values of other variables
pub value_in-with_write_other : (ws : List (ℕ × ℤ)) (var other : ℕ) (value : ℤ) → other ≢ var → value_in (with_write ws var value) other ≡ value_in ws other
value_in-with_write_other [] var other value apart = skip (other == var) (grind (arith, nat_tests))
  where
    skip : (b : Bool) → b ≡ false → cond b (Some value) None ≡ None
    skip true is = cc
    skip false is = refl
value_in-with_write_other (w ∷ ws) var other value apart = by (var == w.0) refl (value_in-with_write_other ws var other value apart)
  where
    skip : (b : Bool) (v : ℤ) (o : Option ℤ) → b ≡ false → cond b (Some v) o ≡ o
    skip true v o is = cc
    skip false v o is = refl

    by : (b : Bool) → (var == w.0) ≡ b → value_in (with_write ws var value) other ≡ value_in ws other →
        value_in (cond b ((var, value) ∷ ws) (w ∷ with_write ws var value)) other ≡ value_in (w ∷ ws) other
    by true is h = skip (other == var) value (value_in ws other) (grind (arith, nat_tests)) ∙ sym (skip (other == w.0) w.1 (value_in ws other) (grind (arith, nat_tests)))
    by false is h = ap (λ o. cond (other == w.0) (Some w.1) o) h

-- a write more leaves at most 64 writes of distinct variables, where there is room for it
pub AreWrites-with_write : (ws : List (ℕ × ℤ)) (var : ℕ) (value : ℤ) → (IsNone (value_in ws var) → length ws < 64) → FitsSigned w64 value → AreWrites ws → AreWrites (with_write ws var value)
AreWrites-with_write ws var value room fits are = by (position (writes_var var) ws) refl
  where
    by : (at : Option ℕ) → position (writes_var var) ws ≡ at → AreWrites (with_write ws var value)
    by None is =
        let absent = is_some-value_in-none ws var is in
        rw (with_write-none ws var value is) (AreWrites-push ws var value absent (room absent) fits are)
    by (Some at) is = rw (with_write-at ws var at value is) (AreWrites-at ws var at value is fits are)
