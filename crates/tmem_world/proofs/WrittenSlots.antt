-- Where a flush and a checkpoint write.
use Rattle.std.proofs.Common.{◌≡◌, ◌⊎◌, inl, ℕ, ◌*◌, ◌+◌, ◌<◌, List, refl, sym, ◌∙◌, ap, subst, arith}
use Rattle.std.specs.Prelude.{Result, Ok, Err}
use Rattle.tmem_disk.specs.Disk.{DeviceView, IsDevice, AtEachMoment}
use Rattle.tmem_fault.specs.declared.fault.Fault.{Fault}
use Rattle.tmem_fault.specs.declared.fault.Fault.TheVariants as fault
use Rattle.tmem_record.specs.Layout.{image_at, image_size, slot_at}
use Rattle.tmem_effect.specs.declared.effect.Effect.{Effect}
use Rattle.tmem_gate.specs.Calls.{Uses, WritesWithin}
use Rattle.tmem_core.specs.Held.{core_state, core_table}
use Rattle.tmem_gate.proofs.Laws.{WritesWithin-refl, WritesWithin-wider}
use Rattle.tmem_journal.specs.Held.{journal_device, journal_layout, journal_position, MayBe}
use Rattle.tmem_journal.specs.Journals.{Flushes}
use Rattle.tmem_journal.specs.declared.journal.Journal.{Journal}
use Rattle.tmem_world.specs.Parts.{held_disk, layout_in}
use Rattle.tmem_world.specs.CoresAndJournals.{CallsDevice}
use Rattle.tmem_world.specs.Represents.{WritesInStore, held_of, world_view}
use Rattle.tmem_world.specs.declared.core_and_journal.CoreAndJournal as core
use Rattle.tmem_world.specs.declared.held.Held.{Held}
use Rattle.tmem_world.specs.declared.held.Held.TheVariants.{With}
use Rattle.tmem_world.specs.declared.world.World.{World}

module _ {D : Type 0} {d : _} (old new : Journal D d) (device : IsDevice (journal_device old)) (es : List Effect) where
  abbrev InLog : Journal D d → Type 0
  InLog j = WritesWithin (slot_at (journal_layout old).vars 0) (4096 * (journal_layout old).slots) (journal_device old) (journal_device j)

  abbrev InSlot : Type 0
  InSlot = WritesWithin (slot_at (journal_layout old).vars (journal_position old).used) 4096 (journal_device old) (journal_device new)

  -- a slot that is left is one of the log
  one_of_them : (journal_position old).used < (journal_layout old).slots → InSlot → InLog new
  one_of_them left within =
      WritesWithin-wider (slot_at (journal_layout old).vars (journal_position old).used) 4096 (slot_at (journal_layout old).vars 0) (4096 * (journal_layout old).slots) (omega arith) (omega (arith, left)) (journal_device old) (journal_device new) within

  -- nothing is written
  none : new ≡ old → InLog new
  none same = subst InLog (sym same) (WritesWithin-refl (slot_at (journal_layout old).vars 0) (4096 * (journal_layout old).slots) (journal_device old) device)

  -- a flush writes in the slots of the log alone
  pub in_log : (answer : Result ℕ Fault) → Flushes old es answer new → InSlot → InLog new
  in_log (Ok n) it within = one_of_them it.0.left within
  in_log (Err fault.Device) it within = one_of_them it.0.left within
  in_log (Err fault.Unknown) it within = one_of_them it.0.left within
  in_log (Err fault.Closed) it within = none it.1
  in_log (Err fault.LogFull) it within = none it.2
  in_log (Err _) it within = absurd it

-- so a flush does
pub flush_called : {D T : Type 0} {d t : _} (o o' : core.CoreAndJournal D T d t) → IsDevice (journal_device o.journal) → (es : List Effect) (x : Result ℕ Fault) → Uses (journal_device o.journal) (journal_device o'.journal) x
    → AtEachMoment (journal_device o.journal) (journal_device o'.journal) (λ c. ∥ MayBe o.journal c ⊎ MayBe o'.journal c ∥₁) → Flushes o.journal es x o'.journal → WritesWithin (slot_at (journal_layout o.journal).vars (journal_position o.journal).used) 4096 (journal_device o.journal) (journal_device o'.journal)
    → journal_layout o'.journal ≡ journal_layout o.journal → core_state o'.core ≡ core_state o.core → core_table o'.core ≡ core_table o.core → CallsDevice (slot_at (journal_layout o.journal).vars 0) (4096 * (journal_layout o.journal).slots) o x o'
flush_called o o' device es x uses during it within layout state table =
    record { uses = uses; any_moment = during; elsewhere = in_log o.journal o'.journal device es x it within; layout = layout; state = state; table = table }

-- no call of the device at all
pub called_nothing : {A D T : Type 0} {d t : _} (at n : ℕ) (o : core.CoreAndJournal D T d t) → IsDevice (journal_device o.journal) → (x : Result A Fault) → Uses (journal_device o.journal) (journal_device o.journal) x → CallsDevice at n o x o
called_nothing at n o device x uses = record {
  uses = uses;
  any_moment = record { each = λ k c left. ∣ inl (o.journal.stands.each k c (device.only_now c k left)) ∣₁ };
  elsewhere = WritesWithin-refl at n (journal_device o.journal) device;
  layout = refl;
  state = refl;
  table = refl;
}

-- the log is in the store
pub log_within : (vars slots : ℕ) (old new : DeviceView) → WritesWithin (slot_at vars 0) (4096 * slots) old new → WritesWithin (image_at vars 0) (2 * image_size vars + 4096 * slots) old new
log_within vars slots old new within = WritesWithin-wider (slot_at vars 0) (4096 * slots) (image_at vars 0) (2 * image_size vars + 4096 * slots) (omega arith) (omega arith) old new within

module _ {D T S : Type 0} {d t s : _} (w : World D T S d t s) where
  -- what is written in the journal's store is written in the world's
  pub store_within : (o : core.CoreAndJournal D T d t) (new : DeviceView) → held_of w ≡ With o → WritesInStore (journal_layout o.journal) (journal_device o.journal) new → WritesInStore w.layout (world_view w) new
  store_within o new before within =
      let vars : (journal_layout o.journal).vars ≡ w.layout.vars = sym (ap (λ (h : Held D T d t). (layout_in h).vars) before) ∙ w.same_vars in
      let slots : (journal_layout o.journal).slots ≡ w.layout.slots = sym (ap (λ (h : Held D T d t). (layout_in h).slots) before) ∙ w.same_slots in
      subst (λ (v : ℕ). WritesWithin (image_at v 0) (2 * image_size v + 4096 * w.layout.slots) (world_view w) new) vars
      (subst (λ (n : ℕ). WritesWithin (image_at (journal_layout o.journal).vars 0) (2 * image_size (journal_layout o.journal).vars + 4096 * n) (world_view w) new) slots
      (subst (λ (h : Held D T d t). WritesInStore (journal_layout o.journal) (d.view (held_disk h)) new) (sym before) within))

  pub flush_within : (o : core.CoreAndJournal D T d t) (new : DeviceView) → held_of w ≡ With o → WritesWithin (slot_at (journal_layout o.journal).vars 0) (4096 * (journal_layout o.journal).slots) (journal_device o.journal) new → WritesInStore w.layout (world_view w) new
  flush_within o new before within = store_within o new before (log_within (journal_layout o.journal).vars (journal_layout o.journal).slots (journal_device o.journal) new within)
