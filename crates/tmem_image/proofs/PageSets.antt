-- The laws of sets of pages.
use Rattle.std.proofs.Common.{◌≡◌, ◌≢◌, ℕ, ◌*◌, ◌/◌, ◌%◌, ◌^◌, ◌<◌, ◌==◌, max, Bool, true, false, ◌||◌, bit_and, bit_or, refl, sym, ap, ◌∙◌, subst, arith, w16}
use Rattle.std.specs.Int.{bit_at}
use Rattle.std.proofs.lemmas.Bool.{eqb-true, eqb-false}
use Rattle.std.proofs.lemmas.Bool.Decides.{nat_tests}
use Rattle.std.proofs.lemmas.Nat.Bits.{bit_at-lt, bit_at-zero, bit_at_or, bit_at_ones, bit_at_set_same, bit_at_set_other, shr_and_one}
use Rattle.tmem_image.specs.Pages.{has_page}

-- a bit that is 1 is a page, and one that is 0 is none
page_from_bit : (pages page : ℕ) → bit_at pages page ≡ 1 → has_page pages page ≡ true
unfolding has_page
page_from_bit pages page is = ap (λ n. n == 1) is

no_page_from_bit : (pages page : ℕ) → bit_at pages page ≡ 0 → has_page pages page ≡ false
unfolding has_page
no_page_from_bit pages page is = ap (λ n. n == 1) is

same_bits : (a b page : ℕ) → bit_at a page ≡ bit_at b page → has_page a page ≡ has_page b page
unfolding has_page
same_bits a b page is = ap (λ n. n == 1) is

-- a bit that is looked at
pub has_page-bit : (pages page : ℕ) → (bit_and (pages / 2 ^ page) 1 == 1) ≡ has_page pages page
unfolding has_page
has_page-bit pages page = ap (λ n. n == 1) (shr_and_one pages page)

-- the empty set has none
pub has_page-zero : (page : ℕ) → has_page 0 page ≡ false
has_page-zero page = no_page_from_bit 0 page (bit_at-zero page)

-- the set of all pages has each
pub has_page-all : (page : ℕ) → page < 16 → has_page 65535 page ≡ true
has_page-all page below = page_from_bit 65535 page (bit_at_ones 16 page below)

max_is_one : (x y : ℕ) → x < 2 → y < 2 → (max x y == 1) ≡ ((x == 1) || (y == 1))
max_is_one x y p q = grind (arith, nat_tests)

-- two sets joined
pub has_page-or : (a b page : ℕ) → has_page (bit_or a b) page ≡ (has_page a page || has_page b page)
unfolding has_page
has_page-or a b page = ap (λ n. n == 1) (bit_at_or a b page) ∙ max_is_one (bit_at a page) (bit_at b page) (bit_at-lt a page) (bit_at-lt b page)

or_not : (b c : Bool) → c ≡ false → (b || c) ≡ b
or_not true c is = refl
or_not false c is = is

or_yes : (b c : Bool) → c ≡ true → (b || c) ≡ true
or_yes true c is = refl
or_yes false c is = is

-- one page more
pub has_page-set : (pages page other : ℕ) → page < 16 → has_page (bit_or pages (1 * 2 ^ page % 2 ^ 16)) other ≡ (has_page pages other || page == other)
has_page-set pages page other within = on (page == other) refl where
  on : (b : Bool) → (page == other) ≡ b → has_page (bit_or pages (1 * 2 ^ page % 2 ^ 16)) other ≡ (has_page pages other || b)
  on true is =
      let same : page ≡ other = eqb-true page other is in
      page_from_bit _ other (subst (λ (k : ℕ). bit_at (bit_or pages (1 * 2 ^ page % 2 ^ 16)) k ≡ 1) same (bit_at_set_same w16 pages page within)) ∙ sym (or_yes (has_page pages other) true refl)
  on false is =
      let apart : other ≢ page = λ same. eqb-false page other is (sym same) in
      same_bits _ pages other (bit_at_set_other w16 pages page within other apart) ∙ sym (or_not (has_page pages other) false refl)

-- a page that is in neither of two sets
pub or_false : (b c : Bool) → (b || c) ≡ false → (b ≡ false) × (c ≡ false)
or_false true c is = cc
or_false false c is = (refl, is)
