-- Bytes as the record keeps them.
use Rattle.std.specs.Prelude.{List, [], ◌∷◌, ◌++◌, ℕ}
use Rattle.tmem_file.specs.declared.calls.Bytes.{Bytes}
use Rattle.tmem_file.specs.declared.calls.Bytes.TheVariants.{Empty, With'}

-- the first one first
abbrev pub bytes_in : Bytes → List ℕ
bytes_in Empty = []
bytes_in (With' shape earlier byte) = bytes_in earlier ++ byte.value ∷ []
