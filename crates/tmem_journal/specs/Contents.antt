-- Which state the content of a device represents, and at which position.
use Rattle.std.specs.Prelude.{◌≡◌, ◌⊎◌, ◌+◌, ◌≤◌, ◌^◌, ℕ, List, length}
use Rattle.tmem_gate.specs.Gate.{IsOpenOver}
use Rattle.tmem_record.specs.Stale.{IsClosedOrStale}
use Rattle.tmem_effect.specs.State.{State}
use Rattle.tmem_state.specs.Versions.{version_number}
use Rattle.tmem_state.specs.declared.version.Version.{Version}
use Rattle.tmem_state.specs.declared.version.Version.TheVariants.{One, Two}
use Rattle.tmem_effect.specs.declared.effect.Effect.{Effect}
use Rattle.tmem_record.specs.Layout.{image_at}
use Rattle.tmem_image.specs.Image.{HoldsImage, other_copy}
use Rattle.tmem_redolog.specs.Log.{HoldsLog, replayed}
use Rattle.tmem_redolog.specs.declared.log.Log.{Log}
use Rattle.tmem_journal.specs.BlockSpelling.{block_body}

-- Which image copy is chosen, of which format version and of which generation, and how many log slots are used behind it.
pub record Position : Type 0 where
  pub version : Version
  pub copy : ℕ
  pub generation : ℕ
  pub used : ℕ

-- that of a new store
abbrev pub first_position : Position
first_position = record { version = Two; copy = 0; generation = 1; used = 0 }

-- the end of a log over that image copy, which is of that version
abbrev pub position_at : Version → ℕ → Log → Position
position_at version copy log = record { version = version; copy = copy; generation = log.generation; used = log.used }

-- the end of a log over an image copy of version 2, the version that is written
abbrev pub position_in : ℕ → Log → Position
position_in copy log = position_at Two copy log

-- with a log slot more
abbrev pub next_slot : Position → Position
next_slot p = record { version = p.version; copy = p.copy; generation = p.generation; used = p.used + 1 }

-- with the next image, in the other copy and of version 2, and an empty log
abbrev pub next_image : Position → Position
next_image p = record { version = Two; copy = other_copy p.copy; generation = p.generation + 1; used = 0 }

-- the position after an opening, by the version of the image that it found: one of version 1 is followed by the next image
abbrev pub migrated_from : Version → Position → Position
migrated_from One p = next_image p
migrated_from Two p = p

-- where an opening goes on, of a store at this position
abbrev pub migrated : Position → Position
migrated p = migrated_from p.version p

-- of version 1, at the last generation: no image can follow
pub record IsSpentAt (p : Position) : Type 0 where
  pub version : p.version ≡ One
  pub last : p.generation + 1 ≡ 2 ^ 64

-- Block 0 spells these numbers and a version that is no later than that of the chosen image, this image copy spells this image
-- of that version and generation, the other copy is closed or of a lesser generation, and the log over that image has these
-- batches, in the grammar of that version.
pub record Holds (version : Version) (vars slots copy generation : ℕ) (image : State) (batches : List (List Effect)) (c : List ℕ) : Type 0 where
  pub block_version : Version
  pub allowed : version_number block_version ≤ version_number version
  pub block : IsOpenOver 0 (block_body block_version vars slots) c
  pub one : copy ≤ 1
  pub chosen : HoldsImage version vars copy generation image c
  pub other : IsClosedOrStale generation (image_at vars (other_copy copy)) c
  pub log : HoldsLog version vars slots generation image batches c

-- The content holds an image and a log that make this state. Each batch of the log takes one slot: so many are used.
pub record HoldsState (vars slots : ℕ) (p : Position) (s : State) (c : List ℕ) : Type 0 where
  pub image : State
  pub batches : List (List Effect)
  pub holds : Holds p.version vars slots p.copy p.generation image batches c
  pub is_used : length batches ≡ p.used
  pub is_state : replayed image batches ≡ s

-- The content represents this state, at that position. Between the bars stands that there is such an image and log: so it
-- is one fact, which a type may keep.
abbrev pub ContentRepresents : ℕ → ℕ → Position → State → List ℕ → Type 0
ContentRepresents vars slots p s c = ∥ HoldsState vars slots p s c ∥₁

-- the content represents this state, at any position
abbrev pub ContentRepresentsState : ℕ → ℕ → State → List ℕ → Type 0
ContentRepresentsState vars slots s c = ∥ ((p : Position) × HoldsState vars slots p s c) ∥₁

-- the content represents one of two states, at any position
abbrev pub ContentRepresentsEither : ℕ → ℕ → State → State → List ℕ → Type 0
ContentRepresentsEither vars slots s t c = ∥ ((p : Position) × (HoldsState vars slots p s c ⊎ HoldsState vars slots p t c)) ∥₁

-- the content represents a state by an image of version 2
abbrev pub IsCurrent : ℕ → ℕ → List ℕ → Type 0
IsCurrent vars slots c = ∥ ((p : Position) × (s : State) × (p.version ≡ Two) × HoldsState vars slots p s c) ∥₁

-- the content represents no state by an image of version 1: opening it writes no image
abbrev pub NeedsNoMigration : ℕ → ℕ → List ℕ → Type 0
NeedsNoMigration vars slots c = (p : Position) (s : State) → ContentRepresents vars slots p s c → p.version ≡ Two
