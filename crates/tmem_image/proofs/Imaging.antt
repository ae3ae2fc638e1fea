-- An image and its parts.
use Rattle.std.proofs.Common.{◌≡◌, ◌+◌, ◌*◌, ◌-◌, ◌<◌, ◌^◌, ℕ, ℤ, List, [], ◌∷◌, ◌++◌, length, take, drop, replicate, get_or, refl, sym, ◌∙◌, ap, arith, append_assoc}
use Rattle.std.specs.Prelude.{FitsSigned}
use Rattle.std.proofs.lemmas.List.{drop_more}
use Rattle.std.specs.Int.{w64}
use Rattle.tmem_effect.specs.Names.{AreRegistered}
use Rattle.tmem_record.specs.Spelling.{number_bytes, value_bytes, names_bytes}
use Rattle.tmem_effect.specs.State.{State}
use Rattle.tmem_record.specs.StandsAt.{StandsAt, zero_bytes, values_bytes}
use Rattle.tmem_state.specs.Versions.{version_byte}
use Rattle.tmem_state.specs.declared.version.Version.{Version}
use Rattle.tmem_state.specs.declared.version.Version.TheVariants.{One, Two}
use Rattle.tmem_record.specs.Layout.{pages_of, image_size}
use Rattle.tmem_record.proofs.Laws.{length-number_bytes, same_parts, delimits_number, delimits_value, delimits_registered, delimits_all, cut, glue, from_whole, whole_from, length-values_bytes}
use Rattle.tmem_image.specs.Spelling.{names_body, pages_body, image_body, AreValues, IsImage}
use Rattle.tmem_image.specs.Framed.{IsPadded}
use Rattle.tmem_image.proofs.Lengths.{length-names_body, length-image_body}

abbrev rest_of : ℕ → List ℕ
rest_of vars = zero_bytes (512 * pages_of vars - 8 * vars)

abbrev behind_version : ℕ → State → List ℕ
behind_version vars s = values_bytes s.values ++ rest_of vars

abbrev behind_names : Version → ℕ → State → List ℕ
behind_names v vars s = (version_byte v ∷ []) ++ behind_version vars s

abbrev behind_count : Version → ℕ → State → List ℕ
behind_count v vars s = names_body s.names ++ behind_names v vars s

abbrev behind_generation : Version → ℕ → State → List ℕ
behind_generation v vars s = number_bytes 8 s.count ++ behind_count v vars s

image_parts : (v : Version) (vars generation : ℕ) (s : State) → image_body v vars generation s ≡ number_bytes 8 generation ++ behind_generation v vars s
unfolding image_body pages_body zero_bytes values_bytes
image_parts v vars generation s = refl

-- where an image's parts stand
pub record IsSplit (v : Version) (vars generation : ℕ) (s : State) (bytes : List ℕ) : Type 0 where
  pub first : StandsAt 0 (number_bytes 8 generation) bytes
  pub count : StandsAt 8 (number_bytes 8 s.count) bytes
  pub names : StandsAt 16 (names_body s.names) bytes
  pub byte : StandsAt 2046 (version_byte v ∷ []) bytes
  pub values : StandsAt 2047 (values_bytes s.values) bytes
  pub padded : IsPadded vars bytes

module _ (v : Version) (vars generation : ℕ) (s : State) (registered : AreRegistered s.names) (long : length s.values ≡ vars) (bytes : List ℕ) where
  after_generation : 0 + length (number_bytes 8 generation) ≡ 8
  after_generation = omega (arith, length-number_bytes 8 generation)

  after_count : 8 + length (number_bytes 8 s.count) ≡ 16
  after_count = omega (arith, length-number_bytes 8 s.count)

  after_names : 16 + length (names_body s.names) ≡ 2046
  after_names = omega (arith, length-names_body s.names registered)

  after_values : 2047 + length (values_bytes s.values) ≡ 2047 + 8 * vars
  after_values = omega (arith, length-values_bytes s.values)

  pub split_image : bytes ≡ image_body v vars generation s → IsSplit v vars generation s bytes
  split_image same =
      let whole = from_whole (number_bytes 8 generation ++ behind_generation v vars s) bytes (same ∙ image_parts v vars generation s) in
      let at_8 = cut 0 8 (number_bytes 8 generation) (behind_generation v vars s) bytes after_generation whole in
      let at_16 = cut 8 16 (number_bytes 8 s.count) (behind_count v vars s) bytes after_count at_8.1 in
      let at_2046 = cut 16 2046 (names_body s.names) (behind_names v vars s) bytes after_names at_16.1 in
      let at_2047 = cut 2046 2047 (version_byte v ∷ []) (behind_version vars s) bytes refl at_2046.1 in
      let last = cut 2047 (2047 + 8 * vars) (values_bytes s.values) (rest_of vars) bytes after_values at_2047.1 in
      record { first = at_8.0; count = at_16.0; names = at_2046.0; byte = at_2047.0; values = last.0; padded = last.1 }

  pub join_image : length bytes + 1 ≡ image_size vars → IsSplit v vars generation s bytes → bytes ≡ image_body v vars generation s
  join_image size parts =
      let from_values = glue 2047 (2047 + 8 * vars) (values_bytes s.values) (rest_of vars) bytes after_values parts.values parts.padded in
      let from_version = glue 2046 2047 (version_byte v ∷ []) (behind_version vars s) bytes refl parts.byte from_values in
      let from_names = glue 16 2046 (names_body s.names) (behind_names v vars s) bytes after_names parts.names from_version in
      let from_count = glue 8 16 (number_bytes 8 s.count) (behind_count v vars s) bytes after_count parts.count from_names in
      let whole = glue 0 8 (number_bytes 8 generation) (behind_generation v vars s) bytes after_generation parts.first from_count in
      let all : length bytes ≡ length (number_bytes 8 generation ++ behind_generation v vars s) = omega (arith, size, length-image_body v vars generation s registered long, ap length (image_parts v vars generation s)) in
      whole_from (number_bytes 8 generation ++ behind_generation v vars s) bytes all whole ∙ sym (image_parts v vars generation s)

-- the version byte, as one of the bytes
pub version_stands : (byte : ℕ) (bytes : List ℕ) → 2046 < length bytes → get_or bytes 2046 0 ≡ byte → StandsAt 2046 (byte ∷ []) bytes
version_stands byte bytes room is = record { is = ap (take 1) (drop_more bytes 2046 0 room) ∙ ap (λ (m : ℕ). m ∷ []) is }

pub version_there : (byte : ℕ) (bytes : List ℕ) → 2046 < length bytes → StandsAt 2046 (byte ∷ []) bytes → get_or bytes 2046 0 ≡ byte
version_there byte bytes room stands = ap (λ (l : List ℕ). get_or l 0 0) (sym (ap (take 1) (drop_more bytes 2046 0 room)) ∙ stands.is)

-- each version has a byte of its own
pub one_version : (v w : Version) → version_byte v ≡ version_byte w → v ≡ w
one_version One One same = refl
one_version One Two same = cc
one_version Two One same = cc
one_version Two Two same = refl

-- the part of the header that has the names
pub names_stand : (names : List (List ℕ)) (bytes part : List ℕ) → AreRegistered names → part ≡ take 2030 (drop 16 bytes) → part ≡ names_body names → StandsAt 16 (names_body names) bytes
names_stand names bytes part registered is same = record { is = ap (λ (n : ℕ). take n (drop 16 bytes)) (length-names_body names registered) ∙ sym is ∙ same }

pub names_part : (names : List (List ℕ)) (bytes part : List ℕ) → AreRegistered names → part ≡ take 2030 (drop 16 bytes) → StandsAt 16 (names_body names) bytes → part ≡ names_body names
names_part names bytes part registered is stands = is ∙ ap (λ (n : ℕ). take n (drop 16 bytes)) (sym (length-names_body names registered)) ∙ stands.is

-- names, and what follows them, of the same bytes
same_names : (ms ns : List (List ℕ)) (r s : List ℕ) → AreRegistered ms → AreRegistered ns → names_body ms ++ r ≡ names_body ns ++ s → (ms ≡ ns) × (r ≡ s)
unfolding names_body
same_names ms ns r s are are' same =
    let rest : List (List ℕ) → List ℕ = λ names. replicate (2030 - length (names_bytes names)) 0 in
    let grouped = sym (append_assoc (names_bytes ms) (rest ms) r) ∙ same ∙ append_assoc (names_bytes ns) (rest ns) s in
    let names = delimits_registered ms ns (rest ms ++ r) (rest ns ++ s) are are' grouped in
    (names.0, (same_parts (rest ms) (rest ns) r s (ap (λ (l : List (List ℕ)). length (rest l)) names.0) names.1).1)

same_pages : (vars : ℕ) (xs ys : List ℤ) → length xs ≡ length ys → AreValues xs → AreValues ys → pages_body vars xs ≡ pages_body vars ys → xs ≡ ys
unfolding pages_body
same_pages vars xs ys long fits fits' same =
    let rest : List ℕ = replicate (512 * pages_of vars - 8 * vars) 0 in
    (delimits_all (FitsSigned w64) value_bytes delimits_value xs ys rest rest long fits fits' same).0

-- an image has one version, one generation and one state
pub one_state : (v w : Version) (vars g h : ℕ) (s t : State) → g < 2 ^ 64 → h < 2 ^ 64 → IsImage vars s → IsImage vars t → image_body v vars g s ≡ image_body w vars h t → (v ≡ w) × (g ≡ h) × (s ≡ t)
unfolding image_body
one_state v w vars g h s t fits_g fits_h fits fits' same =
    let generation = delimits_number 8 g h (number_bytes 8 s.count ++ (names_body s.names ++ from_byte v s)) (number_bytes 8 t.count ++ (names_body t.names ++ from_byte w t)) (omega (arith, fits_g)) (omega (arith, fits_h)) same in
    let count = delimits_number 8 s.count t.count (names_body s.names ++ from_byte v s) (names_body t.names ++ from_byte w t) fits.count fits'.count generation.1 in
    let names = same_names s.names t.names (from_byte v s) (from_byte w t) fits.names fits'.names count.1 in
    let byte = one_version v w (ap (λ (l : List ℕ). get_or l 0 0) names.1) in
    let values = same_pages vars s.values t.values (fits.values ∙ sym fits'.values) fits.numbers fits'.numbers (ap (drop 1) names.1) in
    (byte, generation.0, ap (λ (k : ℕ). made k s.names s.values) count.0 ∙ ap (λ (l : List (List ℕ)). made t.count l s.values) names.0 ∙ ap (made t.count t.names) values)
  where
    from_byte : Version → State → List ℕ
    from_byte x u = version_byte x ∷ pages_body vars u.values

    made : ℕ → List (List ℕ) → List ℤ → State
    made m ns xs = record { count = m; names = ns; values = xs }
