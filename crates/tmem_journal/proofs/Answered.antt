-- What a flush and a checkpoint answer.
use Rattle.std.proofs.Common.{◌≡◌, ◌⊎◌, inr, ⊎_elim, true, List, refl, ap}
use Rattle.std.specs.Prelude.{Ok, Err, Some, IsErrOf, IfSome}
use Rattle.tmem_disk.specs.Disk.{IsWriteOrSync}
use Rattle.tmem_disk.specs.declared.disk.DeviceFault.TheVariants.{Write}
use Rattle.tmem_fault.specs.declared.fault.Fault.{Fault}
use Rattle.tmem_fault.specs.declared.fault.Fault.TheVariants.{Device, Unknown, Closed, LogFull, Spent}
use Rattle.tmem_gate.specs.Calls.{IsReadOrWrite}
use Rattle.tmem_effect.specs.State.{fold}
use Rattle.tmem_effect.specs.declared.effect.Effect.{Effect}
use Rattle.tmem_redolog.specs.Appends.{IsAppendFault}
use Rattle.tmem_journal.specs.Calls.{doubted}
use Rattle.tmem_journal.specs.Held.{journal_device, journal_state, journal_position}
use Rattle.tmem_journal.specs.Journals.{IsJournalAt, HasSlot, HasGeneration, Flushes, Checkpoints}
use Rattle.tmem_journal.specs.declared.journal.Journal.{Journal}
use Rattle.tmem_journal.proofs.Flushed.{one_of_three}

-- of two answers one is given
module _ {T : Type 0} where
  pub ok_is_no_refusal : {x : T} {f : Fault} → IsErrOf (Ok x) f → ⊥
  ok_is_no_refusal e = cc

  pub closed_is_not_device : IsErrOf {T = T} (Err Closed) Device → ⊥
  closed_is_not_device e = cc

  pub closed_is_not_unknown : IsErrOf {T = T} (Err Closed) Unknown → ⊥
  closed_is_not_unknown e = cc

  pub full_is_not_device : IsErrOf {T = T} (Err LogFull) Device → ⊥
  full_is_not_device e = cc

  pub full_is_not_unknown : IsErrOf {T = T} (Err LogFull) Unknown → ⊥
  full_is_not_unknown e = cc

  pub spent_is_not_device : IsErrOf {T = T} (Err Spent) Device → ⊥
  spent_is_not_device e = cc

  pub spent_is_not_unknown : IsErrOf {T = T} (Err Spent) Unknown → ⊥
  spent_is_not_unknown e = cc

full_is_no_failure : (LogFull ≡ Device) ⊎ (LogFull ≡ Unknown) → ⊥
full_is_no_failure which = ⊎_elim (λ e. cc) (λ e. cc) which

-- a refusal is the same in place of any answer
pub as_refusal : {S T : Type 0} {f g : Fault} → IsErrOf {T = S} (Err f) g → IsErrOf {T = T} (Err f) g
as_refusal {f = f} {g = g} is =
    let same : f ≡ g = cc in
    ap (λ (h : Fault). Err h) same

module _ {D : Type 0} {d : _} (old new : Journal D d) where
  -- a checkpoint whose image failed
  pub checkpoint_failed : (f : Fault) → (f ≡ Device) ⊎ (f ≡ Unknown) → HasGeneration old → IsJournalAt new (journal_state old) (journal_state old) (journal_position old) true
      → (IsErrOf {T = Unit {0}} (Err f) Device → IfSome (journal_device new).last_fault IsReadOrWrite) → (IsErrOf {T = Unit {0}} (Err f) Unknown → IfSome (journal_device new).last_fault IsWriteOrSync) → Checkpoints old (Err f) new
  checkpoint_failed Device which has now call gate = (has, call refl, now)
  checkpoint_failed Unknown which has now call gate = (has, gate refl, now)
  checkpoint_failed LogFull which has now call gate = absurd (full_is_no_failure which)
  checkpoint_failed f which has now call gate = absurd (one_of_three f (inr which))

  -- a flush whose append failed
  pub flush_failed : (es : List Effect) (f : Fault) → IsAppendFault f → (f ≡ LogFull → ⊥) → HasSlot old → IsJournalAt new (journal_state old) (fold (journal_state old) (doubted f es)) (journal_position old) true
      → (IsErrOf {T = Unit {0}} (Err f) Device → (journal_device new).last_fault ≡ Some Write) → Flushes old es (Err f) new
  flush_failed es LogFull which other has now write = absurd (other refl)
  flush_failed es Device which other has now write = (has, write refl, now)
  flush_failed es Unknown which other has now write = (has, now)
  flush_failed es f which other has now write = absurd (one_of_three f which)
