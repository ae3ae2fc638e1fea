-- The bytes that stand behind the gate of an image copy: a header, and pages.
use Rattle.std.specs.Prelude.{◌≡◌, ◌<◌, ℕ, ◌*◌, ◌-◌, ◌^◌, ℤ, List, [], ◌∷◌, ◌++◌, length, take, drop, flat_map, replicate, All, FitsSigned}
use Rattle.std.specs.Int.{w64}
use Rattle.tmem_effect.specs.Names.{AreRegistered}
use Rattle.tmem_record.specs.Spelling.{number_bytes, value_bytes, names_bytes}
use Rattle.tmem_effect.specs.State.{State}
use Rattle.tmem_record.specs.Layout.{pages_of}
use Rattle.tmem_state.specs.Versions.{version_byte}
use Rattle.tmem_state.specs.declared.version.Version.{Version}

-- how many names, each of them, and 0 up to the version byte
unfoldable pub names_body : List (List ℕ) → List ℕ
names_body names = names_bytes names ++ replicate (2030 - length (names_bytes names)) 0

-- the values of all pages, and 0 for variables that do not exist
unfoldable pub pages_body : ℕ → List ℤ → List ℕ
pages_body vars values = flat_map value_bytes values ++ replicate (512 * pages_of vars - 8 * vars) 0

-- the generation, the count, the names, the version byte, and the pages
unfoldable pub image_body : Version → ℕ → ℕ → State → List ℕ
image_body v vars generation s = number_bytes 8 generation ++ (number_bytes 8 s.count ++ (names_body s.names ++ (version_byte v ∷ pages_body vars s.values)))

-- what stands in front of the pages
unfoldable pub header_body : Version → ℕ → State → List ℕ
header_body v generation s = number_bytes 8 generation ++ (number_bytes 8 s.count ++ (names_body s.names ++ version_byte v ∷ []))

-- the values of one page: 64, or as many as are left
abbrev pub page_values : List ℤ → ℕ → List ℤ
page_values values page = take 64 (drop (64 * page) values)

-- these values, and 0 to the end of the page
unfoldable pub page_bytes : List ℤ → ℕ → List ℕ
page_bytes values page = flat_map value_bytes (page_values values page) ++ replicate (512 - 8 * length (page_values values page)) 0

-- values of 64 bits
abbrev pub AreValues : List ℤ → Type 0
AreValues zs = All (FitsSigned w64) zs

-- a state that an image can hold
pub record IsImage (vars : ℕ) (s : State) : Type 0 where
  pub count : s.count < 2 ^ 64
  pub names : AreRegistered s.names
  pub values : length s.values ≡ vars
  pub numbers : AreValues s.values
