-- What an image copy and a log slot of some bytes hold, and what an opening finds.
use Rattle.std.specs.Prelude.{◌≡◌, ◌+◌, ℕ, List, length, take, slice_range}
use Rattle.tmem_fault.specs.declared.fault.Fault.{Fault}
use Rattle.tmem_fault.specs.declared.fault.Fault.TheVariants as fault
use Rattle.tmem_gate.specs.Gate.{IsOpenAt, IsClosed}
use Rattle.tmem_record.specs.Layout.{image_at, slot_at}
use Rattle.tmem_record.specs.Spelling.{SpellsBatch}
use Rattle.tmem_effect.specs.State.{State}
use Rattle.tmem_effect.specs.declared.effect.Effect.{Effect}
use Rattle.tmem_state.specs.declared.version.Version.{Version}
use Rattle.tmem_image.specs.Image.{HoldsImage}
use Rattle.tmem_journal.specs.Calls.{FitsOn}
use Rattle.tmem_journal.specs.Mended.{IsFoundAt}
use Rattle.tmem_journal.specs.Refusals.{IsRefusedBy, IsWhy}
use Rattle.tmem_journal.specs.Contents.{Position}
use Rattle.tmem_parts.specs.declared.image.Image.{Image}
use Rattle.tmem_parts.specs.declared.image.Image.TheVariants as image
use Rattle.tmem_parts.specs.declared.slot.Slot.{Slot}
use Rattle.tmem_parts.specs.declared.slot.Slot.TheVariants as slot
use Rattle.tmem_parts.specs.declared.recovery.Recovery.{Recovery}
use Rattle.tmem_parts.specs.declared.recovery.Recovery.TheVariants as recovery

-- what an image copy was read as: closed, open over an image, or open over none
abbrev pub IsImageIn : ℕ → ℕ → List ℕ → Image → Type 0
IsImageIn vars copy c image.Closed = IsClosed (image_at vars copy) c
IsImageIn vars copy c (image.Open it) = HoldsImage it.version vars copy it.generation it.state c
IsImageIn vars copy c image.Damaged =
    IsOpenAt (image_at vars copy) c × ((version : Version) (generation : ℕ) (s : State) → HoldsImage version vars copy generation s c → ⊥)

-- the bytes of a log slot behind its gate
abbrev pub slot_body : ℕ → ℕ → List ℕ → List ℕ
slot_body vars k c = slice_range c (slot_at vars k + 1) (slot_at vars k + 4096)

-- what a log slot was read as, in the grammar of a version: closed, open over a batch with these records, or open over none
abbrev pub IsSlotIn : Version → ℕ → ℕ → List ℕ → List Effect → Slot → Type 0
IsSlotIn version vars k c records slot.Closed = IsClosed (slot_at vars k) c
IsSlotIn version vars k c records (slot.Open head) =
    IsOpenAt (slot_at vars k) c × SpellsBatch version vars head.generation head.first records (take head.length (slot_body vars k c))
IsSlotIn version vars k c records slot.Damaged =
    IsOpenAt (slot_at vars k) c × ((generation first n : ℕ) (es : List Effect) → SpellsBatch version vars generation first es (take n (slot_body vars k c)) → ⊥)

-- the bytes represent this state
abbrev pub IsStateFound : ℕ → ℕ → List ℕ → State → Type 0
IsStateFound vars slots c state = (position : Position) × IsFoundAt vars slots c state position

-- Why an opening of these bytes is refused: by `Geometry` where they are fewer than the layout has; and else for want of memory, or by
-- what the content is refused by.
pub record IsWhyRefused (vars slots : ℕ) (c : List ℕ) (f : Fault) : Type 0 where
  pub numbers : ¬ FitsOn vars slots (length c) → f ≡ fault.Geometry
  pub why : FitsOn vars slots (length c) → IsWhy (IsRefusedBy vars slots c) f

-- what an opening of these bytes finds
abbrev pub IsRecovery : ℕ → ℕ → List ℕ → Recovery → Type 0
IsRecovery vars slots c (recovery.Found state) = IsStateFound vars slots c state
IsRecovery vars slots c (recovery.Refused f) = IsWhyRefused vars slots c f
