-- What block 0 is refused by, as it is found.
use Rattle.std.specs.Prelude.{◌≡◌, ℕ, List, codes}
use Rattle.tmem_fault.specs.declared.fault.Fault.{Fault}
use Rattle.tmem_fault.specs.declared.fault.Fault.TheVariants.{NotFormatted, Damaged, Geometry}
use Rattle.tmem_gate.specs.Gate.{IsOpenOver}
use Rattle.tmem_effect.specs.Prefix.{IsPrefix}
use Rattle.tmem_record.specs.Layout.{IsLayout}
use Rattle.tmem_state.specs.declared.version.Version.{Version}
use Rattle.tmem_journal.specs.BlockSpelling.{block_body}
use Rattle.tmem_journal.specs.Refusals.{HasMagic, IsOfOthers}

-- these bytes are those of a block 0 of other numbers, of any version
pub record SpellsOthers (vars slots : ℕ) (bytes : List ℕ) : Type 0 where
  pub their_version : Version
  pub their_vars : ℕ
  pub their_slots : ℕ
  pub layout : IsLayout their_vars their_slots
  pub block : bytes ≡ block_body their_version their_vars their_slots
  pub others : ¬ ((their_vars ≡ vars) × (their_slots ≡ slots))

-- what the bytes behind the gate of block 0 are refused by
abbrev pub IsBlockFault : ℕ → ℕ → List ℕ → Fault → Type 0
IsBlockFault vars slots bytes NotFormatted = ¬ IsPrefix (codes "TMEM") bytes
IsBlockFault vars slots bytes Geometry = SpellsOthers vars slots bytes
IsBlockFault vars slots bytes Damaged = IsPrefix (codes "TMEM") bytes × ((version : Version) (v s : ℕ) → IsLayout v s → bytes ≡ block_body version v s → ⊥)
IsBlockFault vars slots bytes _ = ⊥

-- what block 0 of a content is refused by
abbrev pub IsBlockBy : ℕ → ℕ → List ℕ → Fault → Type 0
IsBlockBy vars slots c NotFormatted = ¬ HasMagic c
IsBlockBy vars slots c Geometry = IsOfOthers vars slots c
IsBlockBy vars slots c Damaged = HasMagic c × ((version : Version) (v s : ℕ) → IsLayout v s → IsOpenOver 0 (block_body version v s) c → ⊥)
IsBlockBy vars slots c _ = ⊥
