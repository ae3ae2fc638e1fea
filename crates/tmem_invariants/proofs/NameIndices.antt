-- The indices of names in a table.
use Rattle.std.proofs.Common.{◌≡◌, ℕ, ◌+◌, ◌<◌, ◌==◌, Bool, true, false, ◌||◌, bytes_eq, List, [], ◌∷◌, ◌++◌, length, take, get_or, Option, Some, None, refl, sym, ap, ◌∙◌, inl, inr, arith}
use Rattle.std.specs.Prelude.{slice_get}
use Rattle.std.specs.Option.{option_map_or}
use Rattle.std.proofs.lemmas.Bool.{cases_lt, eqb-true, eqb-false, false_from_ne_true}
use Rattle.std.proofs.lemmas.List.{take_more}
use Rattle.std.proofs.lemmas.List.Folds.{list_any-append, list_any_at}
use Rattle.std.proofs.lemmas.Option.{slice_get_within, get_or_from_slice_get}
use Rattle.std.proofs.lemmas.Slice.Eq.{bytes_eq-Decides}
use Rattle.tmem_invariants.specs.Indices.{stands_at}
use Rattle.tmem_invariants.specs.TableNames.{AreDistinct, has_name}

-- the indices of names after names
pub stands_at-append : (first more names : List (List ℕ)) (index : ℕ) → stands_at (first ++ more) names index ≡ (stands_at first names index || stands_at more names index)
stands_at-append first more names index = on (slice_get names index) where
  on : (o : Option (List ℕ)) → option_map_or (has_name (first ++ more)) o false ≡ (option_map_or (has_name first) o false || option_map_or (has_name more) o false)
  on None = refl
  on (Some name) = list_any-append (λ n. bytes_eq n name) first more

pub stands_at-more : (chosen names : List (List ℕ)) (index i : ℕ) (name : List ℕ) → i < length chosen → name ≡ get_or chosen i name → stands_at (take (i + 1) chosen) names index ≡ (stands_at (take i chosen) names index || stands_at (name ∷ []) names index)
stands_at-more chosen names index i name within is =
    let more : take (i + 1) chosen ≡ take i chosen ++ name ∷ [] = take_more chosen i name within ∙ ap (λ n. take i chosen ++ n ∷ []) (sym is) in
    ap (λ ns. stands_at ns names index) more ∙ stands_at-append (take i chosen) (name ∷ []) names index

-- nothing stands where no name was chosen
pub stands_at-none : (names : List (List ℕ)) (index : ℕ) → stands_at [] names index ≡ false
stands_at-none names index = on (slice_get names index) where
  on : (o : Option (List ℕ)) → option_map_or (has_name []) o false ≡ false
  on None = refl
  on (Some name) = refl

-- a name that is not in the table stands nowhere
pub stands_at-absent : (names : List (List ℕ)) (name : List ℕ) → has_name names name ≡ false → (index : ℕ) → stands_at (name ∷ []) names index ≡ false
stands_at-absent names name lacking index = on (slice_get names index) refl where
  on : (o : Option (List ℕ)) → slice_get names index ≡ o → option_map_or (has_name (name ∷ [])) o false ≡ false
  on None at = refl
  on (Some other) at =
      ap (λ b. b || false) (false_from_ne_true (bytes_eq name other) (λ is.
      let same : name ≡ other = (bytes_eq-Decides name other).0 is in
      let there : has_name names name ≡ true = list_any_at (λ n. bytes_eq n name) names index other (slice_get_within names index other at) ((bytes_eq-Decides (get_or names index other) name).1 (get_or_from_slice_get names index other other at ∙ sym same)) in
      let clash : true ≡ false = sym there ∙ lacking in
      absurd (cc)))

-- a name that is there stands at one index
pub stands_at-one : (names : List (List ℕ)) → AreDistinct names → (name : List ℕ) (index : ℕ) → slice_get names index ≡ Some name → (other : ℕ) → stands_at (name ∷ []) names other ≡ (other == index)
stands_at-one names distinct name index at other = by (other == index) refl where
  here : (o : Option (List ℕ)) → o ≡ Some name → option_map_or (has_name (name ∷ [])) o false ≡ true
  here o is = ap (λ x. option_map_or (has_name (name ∷ [])) x false) is ∙ ap (λ b. b || false) ((bytes_eq-Decides name name).1 refl)

  twice : (n : List ℕ) → slice_get names other ≡ Some n → name ≡ n → other ≡ index
  twice n there same =
      elim (cases_lt other index) [
        | inl low ↦
            absurd (distinct other index n low (slice_get_within names index name at) (get_or_from_slice_get names other n n there ∙ sym same ∙ sym (get_or_from_slice_get names index name n at)))
        | inr high ↦ elim (cases_lt index other) [
          | inl low ↦
              absurd (distinct index other n low (slice_get_within names other n there) (get_or_from_slice_get names index name n at ∙ same ∙ sym (get_or_from_slice_get names other n n there)))
          | inr low ↦ omega (arith, high, low)
        ]
      ]

  elsewhere : (o : Option (List ℕ)) → slice_get names other ≡ o → (other ≡ index → ⊥) → option_map_or (has_name (name ∷ [])) o false ≡ false
  elsewhere None there apart = refl
  elsewhere (Some n) there apart =
      ap (λ b. b || false) (false_from_ne_true (bytes_eq name n) (λ is. apart (twice n there ((bytes_eq-Decides name n).0 is))))

  by : (b : Bool) → (other == index) ≡ b → stands_at (name ∷ []) names other ≡ b
  by true is =
      let same : other ≡ index = eqb-true other index is in
      here (slice_get names other) (ap (slice_get names) same ∙ at)
  by false is = elsewhere (slice_get names other) refl (eqb-false other index is)
