-- Testing the indices of a set from the lowest upwards.
use Rattle.std.proofs.Common.{◌≡◌, ℕ, ◌<◌, ◌==◌, Bool, true, false, not, ◌&&◌, List, length, take, get_or, Some, None, find, refl, sym, ap, ◌∙◌, arith}
use Rattle.std.specs.Prelude.{slice_get}
use Rattle.std.proofs.lemmas.Bool.{eqb-true}
use Rattle.std.proofs.lemmas.List.{get_or-take, length-take}
use Rattle.std.proofs.lemmas.List.Folds.{list_any_none}
use Rattle.std.proofs.lemmas.Option.{slice_get-get_or, slice_get_within}
use Rattle.tmem_invariants.specs.Indices.{AreAsked, has_index}
use Rattle.tmem_invariants.proofs.Laws.{find_here, find_none}

-- Some indices of a set are left to be tested: each other one of it has a name that holds.
pub record AreTested (held : List ℕ → Bool) (names : List (List ℕ)) (indices left : ℕ) : Type 0 where
  pub within : (index : ℕ) → has_index left index ≡ true → has_index indices index ≡ true
  pub hold : (index : ℕ) (name : List ℕ) → slice_get names index ≡ Some name → has_index indices index ≡ true → has_index left index ≡ false → held name ≡ true

module _ (held : List ℕ → Bool) (names : List (List ℕ)) (indices : ℕ) where
  module _ (left : ℕ) (so_far : AreTested held names indices left) where
    -- one more holds
    pub tested-more : (index less : ℕ) → ((other : ℕ) → has_index less other ≡ (has_index left other && not (other == index))) → (name : List ℕ) → slice_get names index ≡ Some name → held name ≡ true → AreTested held names indices less
    tested-more index less without tested here holds = record {
      within = λ other there. so_far.within other (kept (has_index left other) (not (other == index)) (sym (without other) ∙ there));
      hold = λ other name at there gone. by other name at there (has_index left other) (other == index) refl refl (sym (without other) ∙ gone);
    } where
      kept : (a b : Bool) → (a && b) ≡ true → a ≡ true
      kept true b is = refl
      kept false b is = is

      by : (other : ℕ) (name : List ℕ) → slice_get names other ≡ Some name → has_index indices other ≡ true → (a b : Bool) → has_index left other ≡ a → (other == index) ≡ b → (a && not b) ≡ false → held name ≡ true
      by other name at there false b is same gone = so_far.hold other name at there is
      by other name at there true true is same gone =
          let twice : Some tested ≡ Some name = sym here ∙ ap (slice_get names) (sym (eqb-true other index same)) ∙ at in
          let one : tested ≡ name = cc in
          ap held (sym one) ∙ holds
      by other name at there true false is same gone = cc

    module _ (asked : List ℕ → Bool) (asks : AreAsked asked names indices) where
      -- a name at an index that is not left is not asked for, or holds
      passes : (index : ℕ) (name : List ℕ) → slice_get names index ≡ Some name → has_index left index ≡ false → (asked name && not (held name)) ≡ false
      passes index name at gone = on (has_index indices index) refl where
        no : (b : Bool) → (b && false) ≡ false
        no true = refl
        no false = refl

        on : (b : Bool) → has_index indices index ≡ b → (asked name && not (held name)) ≡ false
        on true is = ap (λ h. asked name && not h) (so_far.hold index name at is gone) ∙ no (asked name)
        on false is = ap (λ b. b && not (held name)) (sym (asks index name at) ∙ is)

      -- the lowest that is left is the first false one, where it is false
      pub tested-here : (index : ℕ) (name : List ℕ) → slice_get names index ≡ Some name → has_index left index ≡ true → ((other : ℕ) → other < index → has_index left other ≡ false) → held name ≡ false → slice_get names index ≡ find (λ n. asked n && not (held n)) names
      tested-here index name at there lowest fails =
          at ∙ sym (find_here p names index name at (list_any_none p (take index names) before) (both (asked name) (held name) (sym (asks index name at) ∙ so_far.within index there) fails))
        where
          p : List ℕ → Bool
          p n = asked n && not (held n)

          both : (a h : Bool) → a ≡ true → h ≡ false → (a && not h) ≡ true
          both a h among fails_now = ap (λ b. b && not h) among ∙ ap not fails_now

          before : (k : ℕ) (d : List ℕ) → k < length (take index names) → p (get_or (take index names) k d) ≡ false
          before k d within =
              let low : k < index = omega (arith, within, length-take index names) in
              let inside : k < length names = omega (arith, low, slice_get_within names index name at) in
              ap p (get_or-take index names k d low) ∙ passes k (get_or names k d) (slice_get-get_or names k d inside) (lowest k low)

      -- where no index of the table is left, none is false
      pub tested-all : ((index : ℕ) → index < length names → has_index left index ≡ false) → None ≡ find (λ n. asked n && not (held n)) names
      tested-all none =
          sym (find_none (λ n. asked n && not (held n)) names (list_any_none (λ n. asked n && not (held n)) names (λ k d within. passes k (get_or names k d) (slice_get-get_or names k d within) (none k within))))
