-- The bytes that spell a batch.
use Rattle.std.specs.Prelude.{◌≡◌, ◌<◌, ◌≤◌, ℕ, ◌^◌, ℤ, List, [], ◌∷◌, ◌++◌, length, flat_map}
use Rattle.std.specs.Int.{w64, cast_unsigned}
use Rattle.byteorder.specs.Endian.{little_bytes}
use Rattle.tmem_effect.specs.declared.effect.Effect.{Effect}
use Rattle.tmem_state.specs.Batch.{IsBatchIn}
use Rattle.tmem_state.specs.declared.version.Version.{Version}
use Rattle.tmem_state.specs.declared.version.Version.TheVariants.{One, Two}

-- a number of n bytes, the lowest first
unfoldable pub number_bytes : ℕ → ℕ → List ℕ
number_bytes n x = little_bytes n x

-- a value, in two's complement
unfoldable pub value_bytes : ℤ → List ℕ
value_bytes z = number_bytes 8 (cast_unsigned w64 z)

-- a write: the variable, and its value
unfoldable pub write_bytes : ℕ × ℤ → List ℕ
write_bytes w = number_bytes 2 w.0 ++ value_bytes w.1

-- a name: how many letters, and the letters
unfoldable pub name_bytes : List ℕ → List ℕ
name_bytes n = length n ∷ n

-- how many writes, and each of them
unfoldable pub writes_bytes : List (ℕ × ℤ) → List ℕ
writes_bytes ws = length ws ∷ flat_map write_bytes ws

-- how many names, and each of them
unfoldable pub names_bytes : List (List ℕ) → List ℕ
names_bytes ns = length ns ∷ flat_map name_bytes ns

-- what a record of a version has of its retired names: the first version does not spell them
abbrev pub retired_bytes : Version → List (List ℕ) → List ℕ
retired_bytes One ns = []
retired_bytes Two ns = names_bytes ns

-- a record: its writes, its names, and its retired names
unfoldable pub record_bytes : Version → Effect → List ℕ
record_bytes v e = writes_bytes e.writes ++ (names_bytes e.names ++ retired_bytes v e.retired)

-- the generation, the number of the first record, how many records, and each of them
unfoldable pub batch_bytes : Version → ℕ → ℕ → List Effect → List ℕ
batch_bytes v generation first es = number_bytes 8 generation ++ (number_bytes 8 first ++ (number_bytes 2 (length es) ++ flat_map (record_bytes v) es))

-- the bytes spell a batch of a version over so many variables, with its generation and the number of its first record
pub record SpellsBatch (v : Version) (vars generation first : ℕ) (es : List Effect) (bytes : List ℕ) : Type 0 where
  pub generation_fits : generation < 2 ^ 64
  pub first_fits : first < 2 ^ 64
  pub batch : IsBatchIn v vars es
  pub spelled : bytes ≡ batch_bytes v generation first es

-- two batches of one version whose spellings are prefixes of the same bytes are the same in each part: so a batch has one
-- spelling, and no spelling is a prefix of that of another batch
abbrev pub OneSpelling : Type 0
OneSpelling = (v : Version) (vars generation generation' first first' : ℕ) (es es' : List Effect) (a b x y : List ℕ) → vars ≤ 2 ^ 16 → SpellsBatch v vars generation first es a → SpellsBatch v vars generation' first' es' b → a ++ x ≡ b ++ y
    → (a ≡ b) × (x ≡ y) × (generation ≡ generation') × (first ≡ first') × (es ≡ es')
