-- The map from variables to indices.
use Rattle.std.proofs.Common.{◌≡◌, ℕ, zero, suc, ◌+◌, ◌^◌, ◌<◌, ◌==◌, ℤ, Bool, true, false, not, w64, Option, None, ◌||◌, ◌&&◌, List, [], ◌∷◌, length, take, get_or, replicate, map, bit_and, bit_or, Some, refl, sym, ap, ◌∙◌, inl, inr, arith, All}
use Rattle.std.specs.Prelude.{slice_get}
use Rattle.std.specs.Option.{option_map_or}
use Rattle.std.specs.Int.{trailing_zeros}
use Rattle.std.specs.List.{list_any}
use Rattle.std.proofs.lemmas.Bool.{cases_lt, eqb-true, eqb-false}
use Rattle.std.proofs.lemmas.Bool.Decides.{nat_tests}
use Rattle.std.proofs.lemmas.List.{get_or_past, length-replicate, get_or-replicate}
use Rattle.std.proofs.lemmas.List.Elements.{All-head, All-tail}
use Rattle.std.proofs.lemmas.List.Folds.{list_any_at, list_any_more, list_any_none}
use Rattle.std.proofs.lemmas.Option.{get_or_from_slice_get, slice_get-get_or, slice_get_within}
use Rattle.tmem_invariants.specs.Meanings.{Meanings, has_written, is_written, touched}
use Rattle.tmem_invariants.specs.Indices.{AreAsked, AreIndicesOf, IsTouching, has_index, has_var, stands_at}
use Rattle.tmem_invariants.specs.TableNames.{has_name}
use Rattle.tmem_invariants.proofs.Laws.{has_index-and, has_index-or, has_index-zero, has_name-touched, lowest_is_there}

-- a map of nothing
pub touching-none : (vars var index : ℕ) → has_index (get_or (replicate vars 0) var 0) index ≡ false
touching-none vars var index = ap (λ n. has_index n index) none ∙ has_index-zero index where
  zeros : List ℕ
  zeros = replicate vars 0

  none : get_or zeros var 0 ≡ 0
  none = elim (cases_lt var vars) [
    | inl low ↦ get_or-replicate vars var 0 0 low
    | inr high ↦ get_or_past (replicate vars 0) var 0 (omega (arith, high, length-replicate {A = ℕ} vars 0))
  ]

-- the test by the written variables is the one by the footprint's
any_swapped : (footprint : List ℕ) (written : List (ℕ × ℤ)) → list_any (λ (w : ℕ × ℤ). has_var footprint w.0) written ≡ has_written written footprint
any_swapped footprint [] = sym (list_any_none (is_written []) footprint (λ k d within. refl))
any_swapped footprint (w ∷ ws) =
    ap (λ b. has_var footprint w.0 || b) (any_swapped footprint ws) ∙ spread footprint
  where
    eqb-swap : (a b : ℕ) → (a == b) ≡ (b == a)
    eqb-swap a b = grind (arith, nat_tests)

    shuffle : (a b c d : Bool) → ((a || b) || (c || d)) ≡ ((a || c) || (b || d))
    shuffle true b c d = refl
    shuffle false true true d = refl
    shuffle false true false d = refl
    shuffle false false c d = refl

    spread : (fp : List ℕ) → (has_var fp w.0 || has_written ws fp) ≡ has_written (w ∷ ws) fp
    spread [] = refl
    spread (v ∷ vs) =
        shuffle (v == w.0) (has_var vs w.0) (is_written ws v) (has_written ws vs)
        ∙ ap (λ b. (b || is_written ws v) || (has_var vs w.0 || has_written ws vs)) (eqb-swap v w.0)
        ∙ ap (λ b. (w.0 == v || is_written ws v) || b) (spread vs)

-- so an index is touched by writes where its footprint has a written variable
pub touched_is : (footprints : List (List ℕ)) (by_variable : List ℕ) → ((var : ℕ) → IsTouching footprints var (get_or by_variable var 0)) → (written : List (ℕ × ℤ)) (index : ℕ) → list_any (λ (w : ℕ × ℤ). has_index (get_or by_variable w.0 0) index) written ≡ has_written written (get_or footprints index [])
touched_is footprints by_variable touching written index =
    each written ∙ any_swapped (get_or footprints index []) written
  where
    each : (ws : List (ℕ × ℤ)) → list_any (λ (w : ℕ × ℤ). has_index (get_or by_variable w.0 0) index) ws ≡ list_any (λ (w : ℕ × ℤ). has_var (get_or footprints index []) w.0) ws
    each [] = refl
    each (w ∷ ws) =
        ap (λ b. b || list_any (λ (v : ℕ × ℤ). has_index (get_or by_variable v.0 0) index) ws) (touching w.0 index)
        ∙ ap (λ b. has_var (get_or footprints index []) w.0 || b) (each ws)

-- one write more
pub touched_more : (by_variable : List ℕ) (written : List (ℕ × ℤ)) (i indices more : ℕ) (d : ℕ × ℤ) → i < length written → more ≡ get_or by_variable (get_or written i d).0 0 → ((index : ℕ) → has_index indices index ≡ list_any (λ (w : ℕ × ℤ). has_index (get_or by_variable w.0 0) index) (take i written)) → (index : ℕ) → has_index (bit_or indices more) index ≡ list_any (λ (w : ℕ × ℤ). has_index (get_or by_variable w.0 0) index) (take (i + 1) written)
touched_more by_variable written i indices more d within is so_far index =
    has_index-or indices more index
    ∙ ap (λ b. b || has_index more index) (so_far index)
    ∙ ap (λ n. list_any (λ (w : ℕ × ℤ). has_index (get_or by_variable w.0 0) index) (take i written) || has_index n index) is
    ∙ sym (list_any_more (λ (w : ℕ × ℤ). has_index (get_or by_variable w.0 0) index) written i d within)

-- each entry's footprint is the one that is meant by its name
pub footprint_meant : {E : Type 0} (m : Meanings) (name_of footprint_of : E → List ℕ) (es : List E) → All (λ e. footprint_of e ≡ m.footprint (name_of e)) es → (index : ℕ) (name : List ℕ) → slice_get (map name_of es) index ≡ Some name → get_or (map footprint_of es) index [] ≡ m.footprint name
footprint_meant m name_of footprint_of [] all index name at = cc
footprint_meant m name_of footprint_of (e ∷ es) all zero name at =
    let same : name_of e ≡ name = cc in
    All-head (λ d. footprint_of d ≡ m.footprint (name_of d)) e es all ∙ ap m.footprint same
footprint_meant m name_of footprint_of (e ∷ es) all (suc index) name at =
    footprint_meant m name_of footprint_of es (All-tail (λ d. footprint_of d ≡ m.footprint (name_of d)) e es all) index name at

-- the indices of those names that are touched, found by variable
pub touched_indices : {E : Type 0} (m : Meanings) (written : List (ℕ × ℤ)) (name_of footprint_of : E → List ℕ) (es : List E) (by_variable : List ℕ)
    → ((var : ℕ) → IsTouching (map footprint_of es) var (get_or by_variable var 0))
    → All (λ e. footprint_of e ≡ m.footprint (name_of e)) es
    → (held : List (List ℕ)) (registered indices : ℕ) → AreIndicesOf held (map name_of es) registered
    → ((index : ℕ) → has_index indices index ≡ list_any (λ (w : ℕ × ℤ). has_index (get_or by_variable w.0 0) index) written)
    → AreIndicesOf (touched m written held) (map name_of es) (bit_and indices registered)
touched_indices m written name_of footprint_of es by_variable touching meant held registered indices are_held are index =
    has_index-and indices registered index
    ∙ ap (λ b. b && has_index registered index) (are index ∙ touched_is (map footprint_of es) by_variable touching written index)
    ∙ ap (λ b. has_written written (get_or (map footprint_of es) index []) && b) (are_held index)
    ∙ on (slice_get (map name_of es) index) refl
  where
    nowhere : (b : Bool) → (b && false) ≡ false
    nowhere true = refl
    nowhere false = refl

    on : (o : Option (List ℕ)) → slice_get (map name_of es) index ≡ o → (has_written written (get_or (map footprint_of es) index []) && option_map_or (has_name held) o false) ≡ option_map_or (has_name (touched m written held)) o false
    on None at = nowhere (has_written written (get_or (map footprint_of es) index []))
    on (Some name) at =
        ap (λ footprint. has_written written footprint && has_name held name) (footprint_meant m name_of footprint_of es meant index name at)
        ∙ sym (has_name-touched m written held name)

-- the names that two sets are of are asked for by both together
pub asks_either : (held asked names : List (List ℕ)) (registered proposed : ℕ) → AreIndicesOf held names registered → AreIndicesOf asked names proposed → AreAsked (λ name. has_name held name || has_name asked name) names (bit_or registered proposed)
asks_either held asked names registered proposed are_held are_asked index name at =
    has_index-or registered proposed index
    ∙ ap (λ b. b || has_index proposed index) (are_held index ∙ stands held)
    ∙ ap (λ b. has_name held name || b) (are_asked index ∙ stands asked)
  where
    stands : (chosen : List (List ℕ)) → stands_at chosen names index ≡ has_name chosen name
    stands chosen = ap (λ o. option_map_or (has_name chosen) o false) at

-- a set is empty where none of its names stands in the table
pub is_empty_set : (chosen names : List (List ℕ)) (indices : ℕ) → indices < 2 ^ 64 → AreIndicesOf chosen names indices → not (indices == 0) ≡ list_any (has_name chosen) names
is_empty_set chosen names indices fits are = on (indices == 0) refl where
  none : indices ≡ 0 → list_any (has_name chosen) names ≡ false
  none empty =
      list_any_none (has_name chosen) names (λ k d within.
      ap (λ o. option_map_or (has_name chosen) o false) (sym (slice_get-get_or names k d within)) ∙ sym (are k) ∙ ap (λ n. has_index n k) empty ∙ has_index-zero k)

  found : (index : ℕ) (o : Option (List ℕ)) → slice_get names index ≡ o → option_map_or (has_name chosen) o false ≡ true → list_any (has_name chosen) names ≡ true
  found index None at there = cc
  found index (Some name) at there =
      list_any_at (has_name chosen) names index name (slice_get_within names index name at) (ap (has_name chosen) (get_or_from_slice_get names index name name at) ∙ there)

  on : (b : Bool) → (indices == 0) ≡ b → not b ≡ list_any (has_name chosen) names
  on true is = sym (none (eqb-true indices 0 is))
  on false is =
      let lowest = trailing_zeros w64 indices in
      sym (found lowest (slice_get names lowest) refl (sym (are lowest) ∙ lowest_is_there indices (eqb-false indices 0 is) fits))
