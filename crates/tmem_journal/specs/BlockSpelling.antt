-- The bytes that stand behind the gate of block 0.
use Rattle.std.specs.Prelude.{ℕ, List, ◌∷◌, ◌++◌, codes, replicate}
use Rattle.byteorder.specs.Endian.{little_bytes}
use Rattle.tmem_state.specs.Versions.{version_number}
use Rattle.tmem_state.specs.declared.version.Version.{Version}

-- the magic, the version that the store was formatted with, the two numbers, and 0 up to byte 512
unfoldable pub block_body : Version → ℕ → ℕ → List ℕ
block_body version vars slots = codes "TMEM" ++ version_number version ∷ (little_bytes 2 vars ++ (little_bytes 2 slots ++ replicate 502 0))
