-- What a content is refused by.
use Rattle.std.specs.Prelude.{◌≡◌, ℕ, List, codes}
use Rattle.tmem_fault.specs.declared.fault.Fault.{Fault}
use Rattle.tmem_fault.specs.declared.fault.Fault.TheVariants.{Memory, Device, NotFormatted, Damaged, Geometry, Spent}
use Rattle.tmem_gate.specs.Gate.{IsOpenOver}
use Rattle.tmem_effect.specs.State.{State}
use Rattle.tmem_record.specs.Layout.{IsLayout}
use Rattle.tmem_state.specs.declared.version.Version.{Version}
use Rattle.tmem_journal.specs.BlockSpelling.{block_body}
use Rattle.tmem_journal.specs.Contents.{Position, HoldsState, ContentRepresents, IsSpentAt}

-- block 0 is open, and begins with the magic
abbrev pub HasMagic : List ℕ → Type 0
HasMagic c = IsOpenOver 0 (codes "TMEM") c

-- block 0 is open over other numbers than these, which are within the limits too, and over any version
pub record IsOfOthers (vars slots : ℕ) (c : List ℕ) : Type 0 where
  pub their_version : Version
  pub their_vars : ℕ
  pub their_slots : ℕ
  pub layout : IsLayout their_vars their_slots
  pub block : IsOpenOver 0 (block_body their_version their_vars their_slots) c
  pub others : ¬ ((their_vars ≡ vars) × (their_slots ≡ slots))

-- Which refusal a content has. Where it represents no state, it lacks the magic, or it is of other numbers, or else it is
-- damaged. Where it represents one, it is of version 1 and at the last generation, so that no image of version 2 can follow.
abbrev pub IsRefusedBy : ℕ → ℕ → List ℕ → Fault → Type 0
IsRefusedBy vars slots c NotFormatted = ¬ HasMagic c
IsRefusedBy vars slots c Geometry = IsOfOthers vars slots c
IsRefusedBy vars slots c Damaged = HasMagic c × (¬ IsOfOthers vars slots c) × ((p : Position) (s : State) → ContentRepresents vars slots p s c → ⊥)
IsRefusedBy vars slots c Spent = ∥ ((p : Position) × (s : State) × HoldsState vars slots p s c × IsSpentAt p) ∥₁
IsRefusedBy vars slots c _ = ⊥

-- Why no state was found in a content once it was read: a failed call of the device, or one of these three.
abbrev pub IsWhyRead : (Fault → Type 0) → Fault → Type 0
IsWhyRead refused_by Device = Unit {0}
IsWhyRead refused_by NotFormatted = refused_by NotFormatted
IsWhyRead refused_by Damaged = refused_by Damaged
IsWhyRead refused_by Geometry = refused_by Geometry
IsWhyRead refused_by _ = ⊥

-- Why a content was not recovered: why no state was found in it, or that the state that was found cannot be migrated.
abbrev pub IsWhyFound : (Fault → Type 0) → Fault → Type 0
IsWhyFound refused_by Spent = refused_by Spent
IsWhyFound refused_by f = IsWhyRead refused_by f

-- Why a content was not opened: want of memory, or why it was not recovered.
abbrev pub IsWhy : (Fault → Type 0) → Fault → Type 0
IsWhy refused_by Memory = Unit {0}
IsWhy refused_by f = IsWhyFound refused_by f
