-- What an opening makes of a content: mending closes gates behind the log, and a migration writes an image of version 2.
use Rattle.std.specs.Prelude.{◌≡◌, ◌≢◌, ◌<◌, ◌≤◌, ◌⊎◌, ◌+◌, ◌*◌, ℕ, List, slice_get}
use Rattle.tmem_disk.specs.Disk.{DeviceView, SameOutside, AtEachMoment}
use Rattle.tmem_gate.specs.Calls.{OnlyReads, WritesWithin}
use Rattle.tmem_gate.specs.Gate.{IsOpenAt, IsClosed}
use Rattle.tmem_record.specs.Layout.{image_at, image_size, slot_at}
use Rattle.tmem_effect.specs.State.{State}
use Rattle.tmem_journal.specs.Contents.{Position, ContentRepresents, ContentRepresentsState, migrated}

-- at this offset there is no open gate of a log slot
abbrev pub IsNoSlotGate : ℕ → ℕ → List ℕ → ℕ → Type 0
IsNoSlotGate vars slots c i = (k : ℕ) → k < slots → IsOpenAt (slot_at vars k) c → i ≢ slot_at vars k

-- The second content is the first, or has gates closed that were open behind its log: whatever state the first represents,
-- the second represents, at the same position. No byte but those of open gates of log slots changes.
pub record Mends (vars slots : ℕ) (b c : List ℕ) : Type 0 where
  pub states : (p : Position) (s : State) → ContentRepresents vars slots p s b → ContentRepresents vars slots p s c
  pub closed : (k : ℕ) → k < slots → IsClosed (slot_at vars k) b → IsClosed (slot_at vars k) c
  pub others : (i : ℕ) → IsNoSlotGate vars slots b i → slice_get c i ≡ slice_get b i
  pub elsewhere : SameOutside (slot_at vars 0) (4096 * slots) b c

-- a crash might have left it before, but for gates that mending closes
abbrev pub MendedBy : ℕ → ℕ → DeviceView → List ℕ → Type 0
MendedBy vars slots d c = (b : List ℕ) × d.may_leave b × Mends vars slots b c

-- a read gives closed gates in each slot from one on
abbrev pub ClosedFrom : ℕ → ℕ → ℕ → List ℕ → Type 0
ClosedFrom vars slots used c = (k : ℕ) → used ≤ k → k < slots → IsClosed (slot_at vars k) c

-- What mending does to a device, whatever the opening answers. Gates behind the log are closed, and nothing else is written; nothing at
-- all where they read closed, or where the content represents no state. A crash at any moment leaves what one might have left
-- before, but for such gates that are closed in it.
pub record MendsDevice (vars slots : ℕ) (old new : DeviceView) : Type 0 where
  pub any_moment : AtEachMoment old new (MendedBy vars slots old)
  pub seen : new.keeps_model → Mends vars slots old.seen new.seen
  pub elsewhere : WritesWithin (slot_at vars 0) (4096 * slots) old new
  pub reads_only : (p : Position) (s : State) → ContentRepresents vars slots p s old.seen → ClosedFrom vars slots p.used old.seen → OnlyReads old new
  pub damaged_reads_only : ((p : Position) (s : State) → ¬ ContentRepresents vars slots p s old.seen) → OnlyReads old new

-- whatever state the first content represents, the second represents, at any position
abbrev pub Recovers : ℕ → ℕ → List ℕ → List ℕ → Type 0
Recovers vars slots b c = (s : State) → ContentRepresentsState vars slots s b → ContentRepresentsState vars slots s c

-- a crash might have left before a content that represents no state but this one's
abbrev pub RecoveredBy : ℕ → ℕ → DeviceView → List ℕ → Type 0
RecoveredBy vars slots d c = (b : List ℕ) × d.may_leave b × Recovers vars slots b c

-- What an opening does to a device, whatever it answers, also where it writes an image of version 2. A read gives a content that
-- represents the state that it represented, and so does what a crash leaves, at any moment of it. Neither block 0 is written, nor
-- anything behind the slots.
pub record RecoversDevice (vars slots : ℕ) (old new : DeviceView) : Type 0 where
  pub any_moment : AtEachMoment old new (RecoveredBy vars slots old)
  pub seen : new.keeps_model → Recovers vars slots old.seen new.seen
  pub elsewhere : WritesWithin (image_at vars 0) (2 * image_size vars + 4096 * slots) old new

-- at this offset there is no byte of that image copy
abbrev pub IsBesideCopy : ℕ → ℕ → ℕ → Type 0
IsBesideCopy vars copy i = (i < image_at vars copy) ⊎ (image_at vars copy + image_size vars ≤ i)

-- each byte of the second content is that of the first, but in one image copy, and for gates of log slots that the first has open
abbrev pub SameBesideCopy : ℕ → ℕ → ℕ → List ℕ → List ℕ → Type 0
SameBesideCopy vars slots copy b c = (i : ℕ) → IsBesideCopy vars copy i → IsNoSlotGate vars slots b i → slice_get c i ≡ slice_get b i

-- A content represented this state, and the store goes on at this position: where the content represented it, or with the next image
-- where it was of version 1.
pub record IsFoundAt (vars slots : ℕ) (c : List ℕ) (s : State) (now : Position) : Type 0 where
  pub position : Position
  pub stands : ContentRepresents vars slots position s c
  pub goes_on : now ≡ migrated position
