-- The laws of sets of indices.
use Rattle.std.proofs.Common.{◌≡◌, ◌≢◌, ℕ, ◌*◌, ◌-◌, ◌%◌, ◌^◌, ◌<◌, ◌≤◌, ◌==◌, max, min, Bool, true, false, not, ◌||◌, ◌&&◌, bit_and, bit_or, refl, sym, ap, ◌∙◌, subst, inl, inr, arith, w64}
use Rattle.std.specs.Int.{bit_at, bit_not, trailing_zeros}
use Rattle.std.proofs.lemmas.Bool.{cases_lt, eqb-true, eqb-false}
use Rattle.std.proofs.lemmas.Bool.Decides.{nat_tests}
use Rattle.std.proofs.lemmas.Nat.{and_le_l}
use Rattle.std.proofs.lemmas.Nat.Bits.{bit_at-lt, bit_at-zero, bit_at_and, bit_at_or, bit_at_above, bit_at_not, bit_at_set_same, bit_at_set_other, bit_at_clear_same, bit_at_clear_other, bit_at-trailing_zeros}
use Rattle.tmem_invariants.specs.Indices.{has_index}

-- a bit that is 1 is an index, and one that is 0 is none
index_from_bit : (indices index : ℕ) → bit_at indices index ≡ 1 → has_index indices index ≡ true
unfolding has_index
index_from_bit indices index is = ap (λ n. n == 1) is

no_index_from_bit : (indices index : ℕ) → bit_at indices index ≡ 0 → has_index indices index ≡ false
unfolding has_index
no_index_from_bit indices index is = ap (λ n. n == 1) is

bit_from_index : (indices index : ℕ) → has_index indices index ≡ true → bit_at indices index ≡ 1
unfolding has_index
bit_from_index indices index is = eqb-true (bit_at indices index) 1 is

same_bits : (a b index : ℕ) → bit_at a index ≡ bit_at b index → has_index a index ≡ has_index b index
unfolding has_index
same_bits a b index is = ap (λ n. n == 1) is

-- the empty set has none
pub has_index-zero : (index : ℕ) → has_index 0 index ≡ false
has_index-zero index = no_index_from_bit 0 index (bit_at-zero index)

max_is_one : (x y : ℕ) → x < 2 → y < 2 → (max x y == 1) ≡ ((x == 1) || (y == 1))
max_is_one x y p q = grind (arith, nat_tests)

min_is_one : (x y : ℕ) → x < 2 → y < 2 → (min x y == 1) ≡ ((x == 1) && (y == 1))
min_is_one x y p q = grind (arith, nat_tests)

-- two sets joined
pub has_index-or : (a b index : ℕ) → has_index (bit_or a b) index ≡ (has_index a index || has_index b index)
unfolding has_index
has_index-or a b index =
    ap (λ n. n == 1) (bit_at_or a b index) ∙ max_is_one (bit_at a index) (bit_at b index) (bit_at-lt a index) (bit_at-lt b index)

-- what is in both
pub has_index-and : (a b index : ℕ) → has_index (bit_and a b) index ≡ (has_index a index && has_index b index)
unfolding has_index
has_index-and a b index =
    ap (λ n. n == 1) (bit_at_and a b index) ∙ min_is_one (bit_at a index) (bit_at b index) (bit_at-lt a index) (bit_at-lt b index)

-- what is in the first and not in the second
pub has_index-without : (a b index : ℕ) → a < 2 ^ 64 → b < 2 ^ 64 → has_index (bit_and a (bit_not w64 b)) index ≡ (has_index a index && not (has_index b index))
unfolding has_index
has_index-without a b index fits_a fits_b = has_index-and a (bit_not w64 b) index ∙ elim (cases_lt index 64) [
  | inl low ↦ ap (λ n. bit_at a index == 1 && n == 1) (bit_at_not w64 b index fits_b low) ∙ ap (λ c. bit_at a index == 1 && c) (is_none (bit_at b index) (bit_at-lt b index))
  | inr high ↦
      let none : (bit_at a index == 1) ≡ false = ap (λ n. n == 1) (bit_at_above a 64 index fits_a high) in
      ap (λ c. c && bit_at (bit_not w64 b) index == 1) none ∙ sym (ap (λ c. c && not (bit_at b index == 1)) none)
] where
  is_none : (x : ℕ) → x < 2 → (1 - x == 1) ≡ not (x == 1)
  is_none x below = grind (arith, nat_tests)

pub or_not : (b c : Bool) → c ≡ false → (b || c) ≡ b
or_not true c is = refl
or_not false c is = is

and_yes : (b c : Bool) → c ≡ true → (b && c) ≡ b
and_yes true c is = is
and_yes false c is = refl

or_yes : (b c : Bool) → c ≡ true → (b || c) ≡ true
or_yes true c is = refl
or_yes false c is = is

and_no : (b c : Bool) → c ≡ false → (b && c) ≡ false
and_no true c is = is
and_no false c is = refl

-- one index more
pub has_index-set : (indices index other : ℕ) → index < 64 → has_index (bit_or indices (1 * 2 ^ index % 2 ^ 64)) other ≡ (has_index indices other || other == index)
has_index-set indices index other within = on (other == index) refl where
  on : (b : Bool) → (other == index) ≡ b → has_index (bit_or indices (1 * 2 ^ index % 2 ^ 64)) other ≡ (has_index indices other || b)
  on true is =
      let same : other ≡ index = eqb-true other index is in
      index_from_bit _ other (subst (λ (k : ℕ). bit_at (bit_or indices (1 * 2 ^ index % 2 ^ 64)) k ≡ 1) (sym same) (bit_at_set_same w64 indices index within))
      ∙ sym (or_yes (has_index indices other) true refl)
  on false is =
      same_bits _ indices other (bit_at_set_other w64 indices index within other (eqb-false other index is))
      ∙ sym (or_not (has_index indices other) false refl)

-- one index less
pub has_index-clear : (indices index other : ℕ) → indices < 2 ^ 64 → index < 64 → has_index (bit_and indices (bit_not w64 (1 * 2 ^ index % 2 ^ 64))) other ≡ (has_index indices other && not (other == index))
has_index-clear indices index other fits within = on (other == index) refl where
  less : ℕ
  less = bit_and indices (bit_not w64 (1 * 2 ^ index % 2 ^ 64))

  others : other ≢ index → bit_at less other ≡ bit_at indices other
  others apart = elim (cases_lt other 64) [
    | inl low ↦ bit_at_clear_other w64 indices index within other low apart
    | inr high ↦
        bit_at_above less 64 other (omega (arith, fits, and_le_l indices (bit_not w64 (1 * 2 ^ index % 2 ^ 64)))) high
        ∙ sym (bit_at_above indices 64 other fits high)
  ]

  on : (b : Bool) → (other == index) ≡ b → has_index less other ≡ (has_index indices other && not b)
  on true is =
      let same : other ≡ index = eqb-true other index is in
      no_index_from_bit less other (subst (λ (k : ℕ). bit_at less k ≡ 0) (sym same) (bit_at_clear_same w64 indices index within))
      ∙ sym (and_no (has_index indices other) false refl)
  on false is = same_bits less indices other (others (eqb-false other index is)) ∙ sym (and_yes (has_index indices other) true refl)

-- so it is a lesser number
pub clear_is_less : (indices index : ℕ) → index < 64 → has_index indices index ≡ true → bit_and indices (bit_not w64 (1 * 2 ^ index % 2 ^ 64)) < indices
clear_is_less indices index within there =
    let kept : bit_and indices (bit_not w64 (1 * 2 ^ index % 2 ^ 64)) ≤ indices = and_le_l indices (bit_not w64 (1 * 2 ^ index % 2 ^ 64)) in
    let apart : bit_and indices (bit_not w64 (1 * 2 ^ index % 2 ^ 64)) ≢ indices =
    (λ same. let gone : bit_at indices index ≡ 0 = ap (λ n. bit_at n index) (sym same) ∙ bit_at_clear_same w64 indices index within in
    omega (arith, gone, bit_from_index indices index there)) in
    omega (arith, kept, apart)

-- the lowest index
pub lowest_is_there : (indices : ℕ) → indices ≢ 0 → indices < 2 ^ 64 → has_index indices (trailing_zeros w64 indices) ≡ true
lowest_is_there indices some fits =
    index_from_bit indices (trailing_zeros w64 indices) (bit_at-trailing_zeros w64 indices (omega arith) fits).1

pub none_is_lower : (indices : ℕ) → indices ≢ 0 → indices < 2 ^ 64 → (other : ℕ) → other < trailing_zeros w64 indices → has_index indices other ≡ false
none_is_lower indices some fits other before =
    no_index_from_bit indices other ((bit_at-trailing_zeros w64 indices (omega arith) fits).2 other before)
