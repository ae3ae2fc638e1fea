-- What opening a store finds, why it is refused, and what it does to the device.
use Rattle.std.specs.Prelude.{◌≡◌, ◌⊎◌, ⊤, ℕ, ◌*◌, length, Some, Result, Ok, Err}
use Rattle.tmem_disk.specs.Disk.{DeviceView, LeavesOnly, AtEachMoment, SameDevice}
use Rattle.tmem_fault.specs.declared.fault.Fault.{Fault}
use Rattle.tmem_fault.specs.declared.fault.Fault.TheVariants.{Memory, NotFormatted, Damaged, Geometry, Missing, Broken, Spent}
use Rattle.tmem_gate.specs.Calls.{Uses, OnlyReads, WritesWithin}
use Rattle.tmem_effect.specs.State.{State}
use Rattle.tmem_record.specs.Layout.{slot_at}
use Rattle.tmem_invariants.specs.Meanings.{Meanings, IsSound}
use Rattle.tmem_core.specs.Opening.{opening_fault}
use Rattle.tmem_core.specs.Program.{Program}
use Rattle.tmem_journal.specs.Calls.{FitsOn}
use Rattle.tmem_journal.specs.Journals.{IsOpeningFailure}
use Rattle.tmem_journal.specs.Mended.{Mends, MendedBy, ClosedFrom, RecoveredBy, RecoversDevice, IsFoundAt}
use Rattle.tmem_journal.specs.Refusals.{IsWhy, IsRefusedBy}
use Rattle.tmem_journal.specs.Contents.{Position, ContentRepresents, ContentRepresentsEither, NeedsNoMigration}
use Rattle.tmem_opening.specs.declared.opening.Opening.{Opening}
use Rattle.tmem_opening.specs.Held.{found_of, opening_position, opening_layout, opening_device, opening_table}

-- nothing was written, where the gates behind the log read closed
abbrev pub ReadsWhereClosed : ℕ → ℕ → DeviceView → DeviceView → Type 0
ReadsWhereClosed vars slots old new = (p : Position) (s : State) → ContentRepresents vars slots p s old.seen → ClosedFrom vars slots p.used old.seen → OnlyReads old new

-- Gates that read open behind the log may be closed, and nothing else was written: nothing outside the log's slots, and nothing at
-- all where these gates read closed. A crash at any moment of it, or after it, leaves what it might have left before, but for such
-- gates that are closed in it.
pub record ClosesGates (vars slots : ℕ) (old new : DeviceView) : Type 0 where
  pub seen : new.keeps_model → Mends vars slots old.seen new.seen
  pub any_moment : AtEachMoment old new (MendedBy vars slots old)
  pub crash : LeavesOnly new (MendedBy vars slots old)
  pub elsewhere : WritesWithin (slot_at vars 0) (4096 * slots) old new
  pub reads_only : ReadsWhereClosed vars slots old new

-- What an opening did to a device, whatever it answered. A read gives a content that represents the state that it represented, and so
-- does what a crash leaves, at any moment of it or after it. Neither block 0 was written, nor anything behind the log's slots. Where
-- the content represented no state by an image of version 1, gates that read open behind the log may be closed, and that is all.
pub record Mending (vars slots : ℕ) (old new : DeviceView) : Type 0 where
  pub recovers : RecoversDevice vars slots old new
  pub crash : LeavesOnly new (RecoveredBy vars slots old)
  pub gates : NeedsNoMigration vars slots old.seen → ClosesGates vars slots old new

-- The first content represented this state, and the second one represents it at this position, where the store goes on: where the first
-- one represented it, or with the next image, if its own was of version 1.
pub record FindsState (vars slots : ℕ) (old new : DeviceView) (position : Position) (s : State) : Type 0 where
  pub was : IsFoundAt vars slots old.seen s position
  pub stands : ContentRepresents vars slots position s new.seen

-- a refusal that names an invariant
abbrev pub NamesInvariant : Fault → Type 0
NamesInvariant (Missing name) = ⊤
NamesInvariant (Broken name) = ⊤
NamesInvariant _ = ⊥

-- a refusal that tells of the numbers or of the content
abbrev pub TellsOfContent : Fault → Type 0
TellsOfContent NotFormatted = ⊤
TellsOfContent Damaged = ⊤
TellsOfContent Geometry = ⊤
TellsOfContent _ = ⊥

-- The content represented a state of which an invariant is missing or false, the one that the refusal names, whatever closures like
-- these mean.
abbrev pub FindsUnsound : (Program → Type 0) → ℕ → ℕ → DeviceView → Fault → DeviceView → Type 0
FindsUnsound AreTheirs vars slots old f new =
    (position : Position) × (s : State) × (new.keeps_model → FindsState vars slots old new position s)
    × ((p : Program) → AreTheirs p → (opening_fault p s ≡ Some f) × (¬ IsSound p.tests p.names s.names s.values))

-- The content represented a state of which no invariant is missing or false, whatever closures like these mean.
abbrev pub FindsSound : (Program → Type 0) → ℕ → ℕ → DeviceView → DeviceView → Type 0
FindsSound AreTheirs vars slots old new =
    (position : Position) × (s : State) × (new.keeps_model → FindsState vars slots old new position s)
    × ((p : Program) → AreTheirs p → IsSound p.tests p.names s.names s.values)

-- Why a store was not opened: as a content is not, or else an invariant of the state that it represents is missing or false.
abbrev pub IsWhyNot : (Fault → Type 0) → Type 0 → Fault → Type 0
IsWhyNot refused_by unsound f = IsWhy refused_by f ⊎ (NamesInvariant f × unsound)

-- Why opening was refused, with closures whose meanings are like these, and what it did to the device: by Geometry where the
-- numbers do not fit it; else memory or the device, or what its content is refused by; or else an invariant. Want of memory hides
-- nothing that was found: the device was not touched then, or the state that the content represents is sound. Nothing was written
-- where the refusal tells of the content, and nothing but gates behind the log where no image of version 2 can follow.
pub record OpeningRefused (AreTheirs : Program → Type 0) (vars slots : ℕ) (old : DeviceView) (f : Fault) (new : DeviceView) : Type 0 where
  pub uses : Uses {T = Unit {0}} old new (Err f)
  pub mends : Mending vars slots old new
  pub numbers : ¬ FitsOn vars slots old.capacity → f ≡ Geometry
  pub why : IsWhyNot (λ g. new.keeps_model → FitsOn vars slots old.capacity → IsRefusedBy vars slots old.seen g) (FindsUnsound AreTheirs vars slots old f new) f
  pub memory : f ≡ Memory → SameDevice old new ⊎ FindsSound AreTheirs vars slots old new
  pub early : TellsOfContent f → OnlyReads old new
  pub spent : f ≡ Spent → ClosesGates vars slots old new

-- What opening a device of these numbers found, with this table, and what it did to the device.
pub record IsOpened {D T : Type 0} {d t : _} (vars slots : ℕ) (table : T) (old : DeviceView) (o : Opening D T d t) : Type 0 where
  -- the state that the content represented, in which no invariant that is registered is false
  pub found : (opening_device o).keeps_model → FindsState vars slots old (opening_device o) (opening_position o) (found_of o)
  pub sound : (m : Meanings) → t.is_stated table m → IsSound m (t.names table) (found_of o).names (found_of o).values
  pub leaves : LeavesOnly (opening_device o) (ContentRepresents vars slots (opening_position o) (found_of o))
  pub values : length (found_of o).values ≡ vars
  pub fits : ((opening_layout o).vars ≡ vars) × ((opening_layout o).slots ≡ slots) × FitsOn vars slots old.capacity
  pub holds : opening_table o ≡ table
  pub uses : Uses {T = Unit {0}} old (opening_device o) (Ok tt)
  pub mends : Mending vars slots old (opening_device o)

-- such is the state that was found, whatever the closures mean
abbrev pub FoundIs : {D T : Type 0} {d t : _} → Program → Opening D T d t → (State → Type 0) → Type 0
FoundIs p o Such = Such (found_of o)

-- an answer, without the device that a refusal hands back
abbrev pub without_device : {A D : Type 0} → Result A (Fault × D) → Result A Fault
without_device (Ok x) = Ok x
without_device (Err e) = Err e.0

-- What was opened begins at one of two states; or memory or the device failed, or no image of version 2 can follow. `At` says of what
-- was opened that it begins at such a state.
abbrev pub OpensAtEither : {A : Type 0} → (A → (State → Type 0) → Type 0) → Result A Fault → State → State → Type 0
OpensAtEither At (Ok x) a b = At x (λ s. ∥ (s ≡ a) ⊎ (s ≡ b) ∥₁)
OpensAtEither At (Err f) a b = IsOpeningFailure f

-- Where every crash left one of two states, and both are sound by what closures like these mean, one of them is found, unless memory
-- or the device fails, or no image of version 2 can follow.
abbrev pub RecoversEither : {A : Type 0} → (Program → A → (State → Type 0) → Type 0) → (Program → Type 0) → ℕ → ℕ → DeviceView → DeviceView → Result A Fault → Type 0
RecoversEither At AreTheirs vars slots old new answer =
    (p : Program) (a b : State) → AreTheirs p → IsSound p.tests p.names a.names a.values → IsSound p.tests p.names b.names b.values
    → FitsOn vars slots old.capacity → LeavesOnly old (ContentRepresentsEither vars slots a b) → new.keeps_model → OpensAtEither (At p) answer a b
