-- What the calls of a journal do.
use Rattle.std.specs.Prelude.{◌≡◌, ◌<◌, ◌⊎◌, ◌+◌, ◌^◌, ℕ, Bool, true, false, List, Some, Result, Ok, Err, IfSome}
use Rattle.tmem_disk.specs.Disk.{DeviceView, IsWriteOrSync}
use Rattle.tmem_disk.specs.declared.disk.DeviceFault.TheVariants.{Write}
use Rattle.tmem_fault.specs.declared.fault.Fault.{Fault}
use Rattle.tmem_fault.specs.declared.fault.Fault.TheVariants as fault
use Rattle.tmem_gate.specs.Calls.{IsReadOrWrite}
use Rattle.tmem_effect.specs.State.{State, fold}
use Rattle.tmem_effect.specs.declared.effect.Effect.{Effect}
use Rattle.tmem_journal.specs.Calls.{FitsOn}
use Rattle.tmem_journal.specs.Held.{journal_device, journal_layout, journal_state, doubtful_of, journal_position, is_closed_of}
use Rattle.tmem_journal.specs.Refusals.{IsWhy, IsRefusedBy}
use Rattle.tmem_journal.specs.Contents.{Position, next_slot, next_image}
use Rattle.tmem_journal.specs.declared.journal.Journal.{Journal}

-- s is known durable, and t may be in its place; at which position; whether it is closed
pub record IsJournalAt {D : Type 0} {d : _} (j : Journal D d) (s t : State) (p : Position) (shut : Bool) : Type 0 where
  pub state : journal_state j ≡ s
  pub doubtful : doubtful_of j ≡ t
  pub position : journal_position j ≡ p
  pub closed : is_closed_of j ≡ shut

-- it is open, and a log slot is left
pub record HasSlot {D : Type 0} {d : _} (j : Journal D d) : Type 0 where
  pub running : is_closed_of j ≡ false
  pub left : (journal_position j).used < (journal_layout j).slots

-- What a flush of these effects did. At Device the last call that failed was a write.
abbrev pub Flushes : {D : Type 0} {d : _} → Journal D d → List Effect → Result ℕ Fault → Journal D d → Type 0
Flushes old es (Ok n) new = HasSlot old × (n ≡ (fold (journal_state old) es).count) × IsJournalAt new (fold (journal_state old) es) (fold (journal_state old) es) (next_slot (journal_position old)) false
Flushes old es (Err fault.Device) new = HasSlot old × ((journal_device new).last_fault ≡ Some Write) × IsJournalAt new (journal_state old) (journal_state old) (journal_position old) true
Flushes old es (Err fault.Unknown) new = HasSlot old × IsJournalAt new (journal_state old) (fold (journal_state old) es) (journal_position old) true
Flushes old es (Err fault.Closed) new = (is_closed_of old ≡ true) × (new ≡ old)
Flushes old es (Err fault.LogFull) new = (is_closed_of old ≡ false) × ((journal_position old).used ≡ (journal_layout old).slots) × (new ≡ old)
Flushes old es (Err _) new = ⊥

-- a generation follows on that of its image
abbrev pub IsBelowLast : {D : Type 0} {d : _} → Journal D d → Type 0
IsBelowLast j = (journal_position j).generation + 1 < 2 ^ 64

-- it is open, and a generation is left
pub record HasGeneration {D : Type 0} {d : _} (j : Journal D d) : Type 0 where
  pub running : is_closed_of j ≡ false
  pub left : IsBelowLast j

-- What a checkpoint did. No state changes, and none is doubtful. At Device the last call that failed was a read or a write, at
-- Unknown a write or a sync.
abbrev pub Checkpoints : {D : Type 0} {d : _} → Journal D d → Result (Unit {0}) Fault → Journal D d → Type 0
Checkpoints old (Ok _) new = HasGeneration old × IsJournalAt new (journal_state old) (journal_state old) (next_image (journal_position old)) false
Checkpoints old (Err fault.Device) new = HasGeneration old × IfSome (journal_device new).last_fault IsReadOrWrite × IsJournalAt new (journal_state old) (journal_state old) (journal_position old) true
Checkpoints old (Err fault.Unknown) new = HasGeneration old × IfSome (journal_device new).last_fault IsWriteOrSync × IsJournalAt new (journal_state old) (journal_state old) (journal_position old) true
Checkpoints old (Err fault.Closed) new = (is_closed_of old ≡ true) × (new ≡ old)
Checkpoints old (Err fault.Spent) new = (is_closed_of old ≡ false) × ((journal_position old).generation + 1 ≡ 2 ^ 64) × (new ≡ old)
Checkpoints old (Err _) new = ⊥

-- why a content that represents a state was not opened: memory or the device failed, or it cannot be migrated
abbrev pub IsOpeningFailure : Fault → Type 0
IsOpeningFailure f = (f ≡ fault.Memory) ⊎ ((f ≡ fault.Device) ⊎ (f ≡ fault.Spent))

-- one of two states is found, or else the opening failed so
abbrev pub FindsEither : {D : Type 0} {d : _} → Result (Journal D d) (Fault × D) → State → State → Type 0
FindsEither (Ok j) s t = ∥ (journal_state j ≡ s) ⊎ (journal_state j ≡ t) ∥₁
FindsEither (Err e) s t = IsOpeningFailure e.0

-- Why opening was refused: by Geometry where the numbers do not fit the device; else memory or the device, or what its
-- content is refused by.
pub record IsOpeningRefused (old : DeviceView) (vars slots : ℕ) (f : Fault) (new : DeviceView) : Type 0 where
  pub numbers : ¬ FitsOn vars slots old.capacity → f ≡ fault.Geometry
  pub why : IsWhy (λ g. new.keeps_model → FitsOn vars slots old.capacity → IsRefusedBy vars slots old.seen g) f
