-- The integer that a numeral is.
use Rattle.std.proofs.Common.{◌≡◌, ◌==◌, ◌^◌, ◌<◌, ◌≤◌, ℕ, zero, suc, ℤ, pos, List, drop, slice_index, true, false, Some, FitsSigned, w64, refl, sym, ap, arith, lt-ltb, le-leb}
use Rattle.fast_float.specs.Text.{IsInteger, Parts, digits_of, minus, scan, with_sign}
use Rattle.serde_json.specs.Data.{unsigned}
use Rattle.serde_json.specs.Find.{of_integer}
use Rattle.serde_json.specs.Read.{is_integer, number_from, number_of}

integer_is : (p : Parts) → IsInteger p → is_integer p ≡ true
integer_is p h = rw (lt-ltb _ _ h.0, h.1, h.2)

pub unsigned_number : (s : List ℕ) (n : ℕ) → (slice_index s 0 == minus) ≡ false → IsInteger (scan s) → digits_of (scan s) < 2 ^ 64 → n ≡ digits_of (scan s) → number_of s ≡ Some (unsigned n)
unfolding number_of
unsigned_number s n plain integer fits is = rw plain (rw (integer_is (scan s) integer, lt-ltb _ _ fits) (ap (λ (m : ℕ). Some (unsigned m)) (sym is)))

negative_from : (p : Parts) (n : ℕ) (z : ℤ) → is_integer p ≡ true → digits_of p ≡ n → FitsSigned w64 (with_sign true n) → z ≡ with_sign true n → (z ≡ pos 0 → ⊥) → number_from true p ≡ Some (of_integer z)
negative_from p zero z integer digits fits is some = absurd (some is)
negative_from p (suc k) z integer digits fits is some =
    let positive : 0 < suc k = omega arith in
    let low : suc k ≤ 2 ^ 63 = omega (arith, fits) in
    rw (integer, digits, lt-ltb _ _ positive, le-leb _ _ low) (ap (λ (m : ℤ). Some (of_integer m)) (sym is))

pub negative_number : (s : List ℕ) (z : ℤ) → (slice_index s 0 == minus) ≡ true → IsInteger (scan (drop 1 s)) → FitsSigned w64 (with_sign true (digits_of (scan (drop 1 s))))
    → z ≡ with_sign true (digits_of (scan (drop 1 s))) → (z ≡ pos 0 → ⊥) → number_of s ≡ Some (of_integer z)
unfolding number_of
negative_number s z signed integer fits is some = rw signed (negative_from (scan (drop 1 s)) (digits_of (scan (drop 1 s))) z (integer_is (scan (drop 1 s)) integer) refl fits is some)
