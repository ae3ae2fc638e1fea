-- How many bytes the parts of an image have.
use Rattle.std.proofs.Common.{◌≡◌, ◌≤◌, ◌+◌, ◌*◌, ◌-◌, ℕ, ℤ, List, [], ◌∷◌, ◌++◌, length, replicate, flat_map, refl, ◌∙◌, ap, arith, length-append}
use Rattle.std.specs.Prelude.{All}
use Rattle.std.proofs.lemmas.List.{length-replicate}
use Rattle.std.proofs.lemmas.List.Elements.{All-head, All-tail}
use Rattle.tmem_fault.specs.Name.{IsName}
use Rattle.tmem_record.specs.Layout.{pages_of}
use Rattle.tmem_effect.specs.Names.{AreRegistered}
use Rattle.tmem_effect.specs.State.{State}
use Rattle.tmem_state.specs.Versions.{version_byte}
use Rattle.tmem_state.specs.declared.version.Version.{Version}
use Rattle.tmem_record.specs.Spelling.{number_bytes, value_bytes, name_bytes, names_bytes}
use Rattle.tmem_record.proofs.Laws.{length-number_bytes, length-value_bytes, length-flat}
use Rattle.tmem_image.specs.Spelling.{names_body, pages_body, image_body, header_body}

pub joined : (a b : List ℕ) (m n : ℕ) → length a ≡ m → length b ≡ n → length (a ++ b) ≡ m + n
joined a b m n first second = length-append a b ∙ ap (λ (k : ℕ). k + length b) first ∙ ap (λ (k : ℕ). m + k) second

zeros : (n : ℕ) → length (replicate {A = ℕ} n 0) ≡ n
zeros n = length-replicate n 0

-- a name has at most 16 letters
length-name_bytes-le : (name : List ℕ) → IsName name → length (name_bytes name) ≤ 17
unfolding name_bytes
length-name_bytes-le name is = omega (arith, is.short)

length-each_name-le : (names : List (List ℕ)) → All IsName names → length (flat_map name_bytes names) ≤ 17 * length names
length-each_name-le [] each = omega arith
length-each_name-le (n ∷ ns) each =
    omega (arith, length-append (name_bytes n) (flat_map name_bytes ns), length-name_bytes-le n (All-head IsName n ns each), length-each_name-le ns (All-tail IsName n ns each))

pub length-names_bytes-le : (names : List (List ℕ)) → All IsName names → length (names_bytes names) ≤ 1 + 17 * length names
unfolding names_bytes
length-names_bytes-le names each = omega (arith, length-each_name-le names each)

-- the names end before the version byte
pub length-names_body : (names : List (List ℕ)) → AreRegistered names → length (names_body names) ≡ 2030
unfolding names_body
length-names_body names are =
    joined (names_bytes names) (replicate (2030 - length (names_bytes names)) 0) (length (names_bytes names)) (2030 - length (names_bytes names)) refl (zeros (2030 - length (names_bytes names)))
    ∙ omega (arith, length-names_bytes-le names are.names, are.few)

pub length-pages_body : (vars : ℕ) (values : List ℤ) → length values ≡ vars → length (pages_body vars values) ≡ 512 * pages_of vars
unfolding pages_body
length-pages_body vars values all =
    joined (flat_map value_bytes values) (replicate (512 * pages_of vars - 8 * vars) 0) (8 * vars) (512 * pages_of vars - 8 * vars) (length-flat value_bytes 8 length-value_bytes values ∙ ap (λ (k : ℕ). 8 * k) all) (zeros (512 * pages_of vars - 8 * vars))
    ∙ omega arith

pub length-image_body : (v : Version) (vars generation : ℕ) (s : State) → AreRegistered s.names → length s.values ≡ vars → length (image_body v vars generation s) ≡ 2047 + 512 * pages_of vars
unfolding image_body
length-image_body v vars generation s registered all =
    joined (number_bytes 8 generation) behind_8 8 (8 + (2030 + (1 + 512 * pages_of vars))) (length-number_bytes 8 generation)
    (joined (number_bytes 8 s.count) behind_16 8 (2030 + (1 + 512 * pages_of vars)) (length-number_bytes 8 s.count)
    (joined (names_body s.names) behind_names 2030 (1 + 512 * pages_of vars) (length-names_body s.names registered)
    (joined (version_byte v ∷ []) (pages_body vars s.values) 1 (512 * pages_of vars) refl (length-pages_body vars s.values all))))
    ∙ omega arith
  where
    behind_names : List ℕ
    behind_names = version_byte v ∷ pages_body vars s.values

    behind_16 : List ℕ
    behind_16 = names_body s.names ++ behind_names

    behind_8 : List ℕ
    behind_8 = number_bytes 8 s.count ++ behind_16

pub length-header_body : (v : Version) (generation : ℕ) (s : State) → AreRegistered s.names → length (header_body v generation s) ≡ 2047
unfolding header_body
length-header_body v generation s registered =
    joined (number_bytes 8 generation) (number_bytes 8 s.count ++ (names_body s.names ++ version_byte v ∷ [])) 8 2039 (length-number_bytes 8 generation)
    (joined (number_bytes 8 s.count) (names_body s.names ++ version_byte v ∷ []) 8 2031 (length-number_bytes 8 s.count)
    (joined (names_body s.names) (version_byte v ∷ []) 2030 1 (length-names_body s.names registered) refl))
