-- Pages of values, as they are spelled and written one after another.
use Rattle.std.proofs.Common.{◌≡◌, ◌<◌, ◌≤◌, ◌+◌, ◌*◌, ◌-◌, ℕ, ℤ, pos, min, List, [], ◌++◌, length, take, drop, replicate, get_or, flat_map, refl, sym, ◌∙◌, ap, subst, arith, append_assoc, length-append, take-add}
use Rattle.std.specs.Prelude.{FitsSigned, slice_range}
use Rattle.std.specs.Int.{w64, cast_unsigned}
use Rattle.std.proofs.lemmas.List.{take_more, take-append-drop, drop-replicate, take_all, length-take-le, length-drop, length-replicate, append-nil, take_min, length-take}
use Rattle.std.proofs.lemmas.List.Concat.{flat_map-append}
use Rattle.std.proofs.lemmas.List.Elements.{All-push}
use Rattle.byteorder.specs.Endian.{little_bytes}
use Rattle.tmem_record.specs.Spelling.{number_bytes, value_bytes}
use Rattle.tmem_record.specs.Layout.{pages_of}
use Rattle.tmem_record.proofs.Laws.{part_more, length-value_bytes, length-flat}
use Rattle.tmem_image.specs.Spelling.{AreValues, page_values, page_bytes, pages_body}

-- a value more
pub value_put : (zs : List ℤ) (i : ℕ) → i < length zs → (b0 b1 part : List ℕ) → b0 ≡ flat_map value_bytes (take i zs) → b1 ≡ b0 ++ part → part ≡ little_bytes 8 (cast_unsigned w64 (get_or zs i (pos 0))) → b1 ≡ flat_map value_bytes (take (i + 1) zs)
unfolding value_bytes number_bytes
value_put zs i below b0 b1 part before here is = part_more value_bytes zs i (pos 0) below [] b0 b1 part before here is

pub number_more : (zs : List ℤ) (i : ℕ) → i < length zs → AreValues (take i zs) → FitsSigned w64 (get_or zs i (pos 0)) → AreValues (take (i + 1) zs)
number_more zs i below before fits = subst AreValues (sym (take_more zs i (pos 0) below)) (All-push (FitsSigned w64) (take i zs) (get_or zs i (pos 0)) before fits)

-- a page from its values, in front of zeros
module _ (zs : List ℤ) (page from count : ℕ) (part : List ℤ) (offset : from ≡ 64 * page) (counted : count ≡ min 64 (length zs - from)) (within : from ≤ length zs) (is : part ≡ slice_range zs from (from + count)) where
  pub part_is : part ≡ page_values zs page
  part_is =
      let all : from + count - from ≡ count = omega arith in
      let rest : length zs - from ≡ length (drop from zs) = sym (length-drop from zs) in
      is ∙ ap (λ (k : ℕ). take k (drop from zs)) (all ∙ counted ∙ ap (min 64) rest) ∙ take_min 64 (drop from zs) ∙ ap (λ (k : ℕ). take 64 (drop k zs)) offset

  pub page_is : (n : ℕ) (bytes : List ℕ) → n ≡ 8 * length part → take n bytes ≡ flat_map value_bytes part → drop n bytes ≡ drop n (replicate 512 0) → bytes ≡ page_bytes zs page
  unfolding page_bytes
  page_is n bytes n_is front rest =
      sym (take-append-drop n bytes) ∙ ap (λ (l : List ℕ). l ++ drop n bytes) (front ∙ ap (flat_map value_bytes) part_is)
      ∙ ap (λ (l : List ℕ). flat_map value_bytes (page_values zs page) ++ l) (rest ∙ drop-replicate n 512 0 ∙ ap (λ (k : ℕ). replicate (512 - k) 0) (n_is ∙ ap (λ (l : List ℤ). 8 * length l) part_is))

-- so many pages, one behind another
unfoldable pub pages_front : List ℤ → ℕ → List ℕ
pages_front zs n = flat_map value_bytes (take (64 * n) zs) ++ replicate (512 * n - 8 * length (take (64 * n) zs)) 0

length-values : (zs : List ℤ) → length (flat_map value_bytes zs) ≡ 8 * length zs
length-values zs = length-flat value_bytes 8 length-value_bytes zs

pub length-page_bytes : (zs : List ℤ) (page : ℕ) → length (page_bytes zs page) ≡ 512
unfolding page_bytes
length-page_bytes zs page =
    omega (arith, length-append (flat_map value_bytes (page_values zs page)) (replicate (512 - 8 * length (page_values zs page)) 0), length-values (page_values zs page), length-replicate {A = ℕ} (512 - 8 * length (page_values zs page)) 0, short)
  where
    short : length (page_values zs page) ≤ 64
    short = omega (arith, length-take 64 (drop (64 * page) zs))

pub front_none : (zs : List ℤ) → pages_front zs 0 ≡ []
unfolding pages_front
front_none zs = refl

-- full pages have no zeros
full_front : (zs : List ℤ) (n : ℕ) → 64 * n ≤ length zs → pages_front zs n ≡ flat_map value_bytes (take (64 * n) zs)
unfolding pages_front
full_front zs n full =
    let none : 512 * n - 8 * length (take (64 * n) zs) ≡ 0 = omega (arith, length-take-le (64 * n) zs full) in
    ap (λ (k : ℕ). flat_map value_bytes (take (64 * n) zs) ++ replicate k 0) none ∙ append-nil (flat_map value_bytes (take (64 * n) zs))

pub length-pages_front : (zs : List ℤ) (n : ℕ) → 64 * n ≤ length zs → length (pages_front zs n) ≡ 512 * n
length-pages_front zs n full = ap length (full_front zs n full) ∙ length-values (take (64 * n) zs) ∙ omega (arith, length-take-le (64 * n) zs full)

-- a page more
pub front_more : (zs : List ℤ) (n : ℕ) → 64 * n ≤ length zs → pages_front zs (n + 1) ≡ pages_front zs n ++ page_bytes zs n
unfolding pages_front page_bytes
front_more zs n full =
    let next : 64 * (n + 1) ≡ 64 * n + 64 = omega arith in
    let parts : take (64 * (n + 1)) zs ≡ take (64 * n) zs ++ page_values zs n = ap (λ (k : ℕ). take k zs) next ∙ take-add (64 * n) 64 zs in
    let long : 512 * (n + 1) - 8 * length (take (64 * (n + 1)) zs) ≡ 512 - 8 * length (page_values zs n) =
    omega (arith, ap length parts, length-append (take (64 * n) zs) (page_values zs n), length-take-le (64 * n) zs full) in
    ap (λ (k : ℕ). flat_map value_bytes (take (64 * (n + 1)) zs) ++ replicate k 0) long
    ∙ ap (λ (l : List ℤ). flat_map value_bytes l ++ replicate (512 - 8 * length (page_values zs n)) 0) parts
    ∙ ap (λ (l : List ℕ). l ++ replicate (512 - 8 * length (page_values zs n)) 0) (flat_map-append value_bytes (take (64 * n) zs) (page_values zs n))
    ∙ append_assoc (flat_map value_bytes (take (64 * n) zs)) (flat_map value_bytes (page_values zs n)) (replicate (512 - 8 * length (page_values zs n)) 0)
    ∙ ap (λ (l : List ℕ). l ++ page_bytes zs n) (sym (full_front zs n full))

-- all of them
pub front_all : (vars : ℕ) (zs : List ℤ) → length zs ≡ vars → pages_front zs (pages_of vars) ≡ pages_body vars zs
unfolding pages_front pages_body
front_all vars zs long =
    let all : take (64 * pages_of vars) zs ≡ zs = take_all (64 * pages_of vars) zs (omega (arith, long)) in
    ap (λ (l : List ℤ). flat_map value_bytes l ++ replicate (512 * pages_of vars - 8 * length l) 0) all ∙ ap (λ (k : ℕ). flat_map value_bytes zs ++ replicate (512 * pages_of vars - 8 * k) 0) long
