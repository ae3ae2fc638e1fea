-- The content of a device once it is formatted.
use Rattle.std.specs.Prelude.{ℕ, ◌-◌, List, [], ◌∷◌, ◌++◌, replicate}
use Rattle.byteorder.specs.Endian.{little_bytes}
use Rattle.tmem_effect.specs.State.{first_state}
use Rattle.tmem_state.specs.Versions.{version_byte}
use Rattle.tmem_state.specs.declared.version.Version.TheVariants.{Two}
use Rattle.tmem_record.specs.Layout.{image_at, end_at}
use Rattle.tmem_image.specs.Spelling.{image_body}
use Rattle.tmem_journal.specs.BlockSpelling.{block_body}

-- an open gate, and what stands behind it
abbrev pub open_cell : List ℕ → List ℕ
open_cell body = 0xA5 ∷ body

-- what stands in front of the pages of the first image: generation 1, no transaction and no name, and the version byte of version 2
abbrev pub header_bytes : List ℕ
header_bytes = little_bytes 8 1 ++ (replicate 2038 0 ++ version_byte Two ∷ [])

-- Block 0 of version 2 with these numbers, image copy 0 of version 2 and generation 1 with the first state, and 0 from image
-- copy 1 to the end.
unfoldable pub formatted : ℕ → ℕ → List ℕ
formatted vars slots = open_cell (block_body Two vars slots) ++ (open_cell (image_body Two vars 1 (first_state vars)) ++ replicate (end_at vars slots - image_at vars 1) 0)
