-- Bytes that stand from an offset on: in parts, and read as numbers.
use Rattle.std.proofs.Common.{◌≡◌, ◌<◌, ◌≤◌, ◌+◌, ◌*◌, ◌-◌, ◌^◌, ℕ, ℤ, List, [], ◌∷◌, ◌++◌, length, take, drop, replicate, refl, sym, ◌∙◌, ap, subst, eqb, arith, length-append, flat_map}
use Rattle.std.specs.Prelude.{slice_range}
use Rattle.std.proofs.lemmas.List.{take-append-drop, take-take, drop-take, drop-drop, take_all, take_at, drop_at, length-take-le, length-drop, append-nil, length-replicate, get_or-drop, take_rest}
use Rattle.std.specs.Int.{w64, cast_unsigned, cast_signed}
use Rattle.std.specs.Prelude.{IsTrue}
use Rattle.std.proofs.lemmas.Bool.{eqb-true, eq-eqb}
use Rattle.std.proofs.lemmas.List.Concat.{flat_map-append}
use Rattle.std.proofs.lemmas.Int.{of_z-to_z}
use Rattle.byteorder.specs.Endian.{little_bytes, little_number}
use Rattle.byteorder.specs.Numbers.{little_from-lt, length-bytes_low_first}
use Rattle.tmem_record.specs.Spelling.{number_bytes, value_bytes}
use Rattle.tmem_record.proofs.SpellingLaws.{IsBytes, take-spelled, number-spelled, length-number_bytes, length-value_bytes}
use Rattle.tmem_record.specs.StandsAt.{StandsAt, zero_bytes, values_bytes}

pub length-little_bytes : (n x : ℕ) → length (little_bytes n x) ≡ n
length-little_bytes n x = length-bytes_low_first 0 n x

pub length-flat : {A : Type 0} (f : A → List ℕ) (n : ℕ) → ((x : A) → length (f x) ≡ n) → (xs : List A) → length (flat_map f xs) ≡ n * length xs
length-flat f n each [] = omega arith
length-flat f n each (x ∷ xs) = length-append (f x) (flat_map f xs) ∙ rw (each x, length-flat f n each xs) (omega arith)

pub length-zero_bytes : (n : ℕ) → length (zero_bytes n) ≡ n
unfolding zero_bytes
length-zero_bytes n = length-replicate n 0

-- part by part
module _ (at : ℕ) (a b bytes : List ℕ) where
  pub first_part : StandsAt at (a ++ b) bytes → StandsAt at a bytes
  first_part stands = record {
    is =
        let le : length a ≤ length (a ++ b) = omega (arith, length-append a b) in
        sym (take-take (length a) (length (a ++ b)) (drop at bytes) le) ∙ ap (take (length a)) stands.is ∙ take_at a b (length a) refl;
  }

  pub second_part : StandsAt at (a ++ b) bytes → StandsAt (at + length a) b bytes
  second_part stands = record {
    is =
        ap (take (length b)) (sym (drop-drop (length a) at bytes)) ∙ sym (drop-take (length a) (length b) (drop at bytes)) ∙ ap (λ (n : ℕ). drop (length a) (take n (drop at bytes))) (sym (length-append a b))
        ∙ ap (drop (length a)) stands.is ∙ drop_at a b (length a) refl;
  }

  pub both_parts : StandsAt at a bytes → StandsAt (at + length a) b bytes → StandsAt at (a ++ b) bytes
  both_parts first second = record {
    is =
        let le : length a ≤ length a + length b = omega arith in
        let whole : List ℕ = take (length a + length b) (drop at bytes) in
        ap (λ (n : ℕ). take n (drop at bytes)) (length-append a b) ∙ sym (take-append-drop (length a) whole)
        ∙ ap (λ (l : List ℕ). l ++ drop (length a) whole) (take-take (length a) (length a + length b) (drop at bytes) le ∙ first.is)
        ∙ ap (λ (l : List ℕ). a ++ l) (drop-take (length a) (length b) (drop at bytes) ∙ ap (take (length b)) (drop-drop (length a) at bytes) ∙ second.is);
  }

-- an offset that is given as another sum
pub moved : (i j : ℕ) (part bytes : List ℕ) → i ≡ j → StandsAt i part bytes → StandsAt j part bytes
moved i j part bytes same stands = subst (λ (k : ℕ). StandsAt k part bytes) same stands

-- all of the bytes
pub from_whole : (body bytes : List ℕ) → bytes ≡ body → StandsAt 0 body bytes
from_whole body bytes same = record { is = ap (take (length body)) same ∙ take_all (length body) body (omega arith) }

pub whole_from : (body bytes : List ℕ) → length bytes ≡ length body → StandsAt 0 body bytes → bytes ≡ body
whole_from body bytes long stands = sym (take_all (length body) bytes (omega (arith, long))) ∙ stands.is

-- two parts of one length that stand at one offset are one
pub one_part : (at : ℕ) (a b bytes : List ℕ) → length a ≡ length b → StandsAt at a bytes → StandsAt at b bytes → a ≡ b
one_part at a b bytes long first second = sym first.is ∙ ap (λ (n : ℕ). take n (drop at bytes)) long ∙ second.is

-- a number that is spelled is one
pub one_number : (n x y : ℕ) → x < 256 ^ n → y < 256 ^ n → number_bytes n x ≡ number_bytes n y → x ≡ y
unfolding number_bytes
one_number n x y fits fits' same =
    sym (number-spelled n x [] fits) ∙ ap (λ (l : List ℕ). little_number n (l ++ [])) same ∙ number-spelled n y [] fits'

pub one_number_at : (n at x y : ℕ) (bytes : List ℕ) → x < 256 ^ n → y < 256 ^ n → StandsAt at (number_bytes n x) bytes → StandsAt at (number_bytes n y) bytes → x ≡ y
one_number_at n at x y bytes fits fits' first second = one_number n x y fits fits' (one_part at (number_bytes n x) (number_bytes n y) bytes (length-number_bytes n x ∙ sym (length-number_bytes n y)) first second)

-- what follows an offset are bytes
pub bytes_behind : (at : ℕ) (bytes : List ℕ) → IsBytes bytes → IsBytes (drop at bytes)
bytes_behind at bytes each i = rw get_or-drop (each (at + i))

-- the bytes from an offset on
abbrev pub behind : ℕ → List ℕ → List ℕ
behind at bytes = take (length bytes - at) (drop at bytes)

-- what is read as a number stands there
pub number_read : (n at x : ℕ) (bytes : List ℕ) → IsBytes bytes → at + n ≤ length bytes → x ≡ little_number n (behind at bytes) → StandsAt at (number_bytes n x) bytes
unfolding number_bytes
number_read n at x bytes each room is = record {
  is =
      ap (λ (k : ℕ). take k (drop at bytes)) (length-little_bytes n x) ∙ take-spelled n (drop at bytes) (bytes_behind at bytes each) (omega (arith, length-drop at bytes)) ∙ ap (little_bytes n) (ap (little_number n) (sym (take_rest bytes at)) ∙ sym is);
}

pub value_read : (at : ℕ) (z : ℤ) (bytes : List ℕ) → IsBytes bytes → at + 8 ≤ length bytes → z ≡ cast_signed w64 (little_number 8 (behind at bytes)) → StandsAt at (value_bytes z) bytes
unfolding value_bytes number_bytes
value_read at z bytes each room is = record {
  is =
      let fits = little_from-lt 0 8 (drop at bytes) (bytes_behind at bytes each) in
      let from : z ≡ cast_signed w64 (little_number 8 (drop at bytes)) = is ∙ ap (λ (l : List ℕ). cast_signed w64 (little_number 8 l)) (take_rest bytes at) in
      ap (λ (k : ℕ). take k (drop at bytes)) (length-value_bytes z) ∙ take-spelled 8 (drop at bytes) (bytes_behind at bytes each) (omega (arith, length-drop at bytes))
      ∙ ap (little_bytes 8) (sym (ap (cast_unsigned w64) from ∙ of_z-to_z w64 (little_number 8 (drop at bytes)) fits));
}

-- so many bytes from an offset on, as a slice has them
abbrev pub between_is : (from n : ℕ) (bytes : List ℕ) → slice_range bytes from (from + n) ≡ take n (drop from bytes)
between_is from n bytes = let k : from + n - from ≡ n = omega arith in ap (λ (m : ℕ). take m (drop from bytes)) k

pub blank_read : (from n : ℕ) (bytes part : List ℕ) → part ≡ take n (drop from bytes) → from + n ≤ length bytes → part ≡ replicate (length part) 0 → StandsAt from (zero_bytes n) bytes
unfolding zero_bytes
blank_read from n bytes part is room zeros =
    let long : length part ≡ n = ap length is ∙ length-take-le n (drop from bytes) (omega (arith, length-drop from bytes)) in
    record { is = ap (λ (k : ℕ). take k (drop from bytes)) (length-replicate n 0) ∙ sym is ∙ zeros ∙ ap (λ (k : ℕ). replicate k 0) long }

pub blank_reads : (from n : ℕ) (bytes part : List ℕ) → part ≡ take n (drop from bytes) → from + n ≤ length bytes → StandsAt from (zero_bytes n) bytes → part ≡ replicate (length part) 0
unfolding zero_bytes
blank_reads from n bytes part is room stands =
    let long : length part ≡ n = ap length is ∙ length-take-le n (drop from bytes) (omega (arith, length-drop from bytes)) in
    is ∙ ap (λ (k : ℕ). take k (drop from bytes)) (sym (length-replicate n 0)) ∙ stands.is ∙ ap (λ (k : ℕ). replicate k 0) (sym long)

pub length-values_bytes : (zs : List ℤ) → length (values_bytes zs) ≡ 8 * length zs
unfolding values_bytes
length-values_bytes zs = length-flat value_bytes 8 length-value_bytes zs

pub no_values : (at : ℕ) (bytes : List ℕ) → StandsAt at (values_bytes []) bytes
unfolding values_bytes
no_values at bytes = record { is = refl }

-- a value more
pub one_value_more : (at : ℕ) (zs : List ℤ) (z : ℤ) (bytes : List ℕ) → StandsAt at (values_bytes zs) bytes → StandsAt (at + 8 * length zs) (value_bytes z) bytes → StandsAt at (values_bytes (zs ++ z ∷ [])) bytes
unfolding values_bytes
one_value_more at zs z bytes before here =
    let e : values_bytes zs ++ value_bytes z ≡ values_bytes (zs ++ z ∷ []) = ap (λ (l : List ℕ). values_bytes zs ++ l) (sym (append-nil (value_bytes z))) ∙ sym (flat_map-append value_bytes zs (z ∷ [])) in
    subst (λ (part : List ℕ). StandsAt at part bytes) e (both_parts at (values_bytes zs) (value_bytes z) bytes before
    (moved (at + 8 * length zs) (at + length (values_bytes zs)) (value_bytes z) bytes (ap (λ (n : ℕ). at + n) (sym (length-values_bytes zs))) here))

-- whether a number that was read is another one
pub is_number_there : (n at x y : ℕ) (bytes : List ℕ) → x < 256 ^ n → y < 256 ^ n → StandsAt at (number_bytes n x) bytes → (IsTrue (eqb x y) → StandsAt at (number_bytes n y) bytes) × (StandsAt at (number_bytes n y) bytes → IsTrue (eqb x y))
is_number_there n at x y bytes fits fits' stands =
    (λ same. subst (λ (m : ℕ). StandsAt at (number_bytes n m) bytes) (eqb-true x y same) stands, λ other. eq-eqb x y (one_number_at n at x y bytes fits fits' stands other))

-- the first part, and the rest from offset j on
pub cut : (i j : ℕ) (a rest bytes : List ℕ) → i + length a ≡ j → StandsAt i (a ++ rest) bytes → StandsAt i a bytes × StandsAt j rest bytes
cut i j a rest bytes next stands = (first_part i a rest bytes stands, moved (i + length a) j rest bytes next (second_part i a rest bytes stands))

pub glue : (i j : ℕ) (a rest bytes : List ℕ) → i + length a ≡ j → StandsAt i a bytes → StandsAt j rest bytes → StandsAt i (a ++ rest) bytes
glue i j a rest bytes next first second = both_parts i a rest bytes first (moved j (i + length a) rest bytes (sym next) second)
