-- What is left of a device once it was opened.
use Rattle.std.proofs.Common.{◌≡◌, ◌≤◌, ◌^◌, ◌⊎◌, inl, inr, ⊎_elim, ℕ, List, sym, ◌∙◌, ap, subst}
use Rattle.std.proofs.Math.Logic.{∥∥₁_elim, ∥∥₁_map, ∥∥₁_prop}
use Rattle.std.proofs.Props.{props}
use Rattle.tmem_disk.specs.Disk.{DeviceView, IsDevice, LeavesOnly}
use Rattle.tmem_fault.specs.declared.fault.Fault.TheVariants.{Spent}
use Rattle.tmem_effect.specs.State.{State}
use Rattle.tmem_state.specs.declared.version.Version.TheVariants.{One, Two}
use Rattle.tmem_journal.specs.Laws.{RepresentsOne, SpentIsAtLast}
use Rattle.tmem_journal.specs.Mended.{Mends, Recovers, RecoveredBy}
use Rattle.tmem_journal.specs.Refusals.{IsRefusedBy}
use Rattle.tmem_journal.specs.Contents.{Position, HoldsState, ContentRepresentsEither, IsCurrent, NeedsNoMigration}
use Rattle.tmem_opening.specs.Opening.{Mending}
use Rattle.tmem_world.specs.declared.held.Held.{Held}
use Rattle.tmem_world.specs.declared.held.Held.TheVariants.{With, Without}
use Rattle.tmem_world.specs.declared.world.World.{World}
use Rattle.tmem_world.specs.Parts.{held_disk, layout_in}
use Rattle.tmem_world.specs.Represents.{held_of, world_view}

-- a content represents what it represented before
represents_mended : (vars slots : ℕ) (s t : State) (b c : List ℕ) → Recovers vars slots b c → ContentRepresentsEither vars slots s t b → ContentRepresentsEither vars slots s t c
represents_mended vars slots s t b c mends it = ∥∥₁_elim it (hlevel props) (λ (found : (p : Position) × (HoldsState vars slots p s b ⊎ HoldsState vars slots p t b)). ⊎_elim
    (λ (one : HoldsState vars slots found.0 s b). ∥∥₁_map (mends s ∣ (found.0, one) ∣₁) (λ is. (is.0, inl is.1)))
    (λ (other : HoldsState vars slots found.0 t b). ∥∥₁_map (mends t ∣ (found.0, other) ∣₁) (λ is. (is.0, inr is.1))) found.1)

-- so it is of each content that a crash might have left
pub mended_represents : (vars slots : ℕ) (s t : State) (d : DeviceView) → LeavesOnly d (ContentRepresentsEither vars slots s t) → d.keeps_model → (c : List ℕ) → RecoveredBy vars slots d c → ContentRepresentsEither vars slots s t c
mended_represents vars slots s t d left keeps c from = represents_mended vars slots s t from.0 c from.2 (left.each keeps from.0 from.1)

module _ (vars slots : ℕ) where
  -- an image of version 2 is one where gates behind its log are closed
  current_mended : (b c : List ℕ) → Mends vars slots b c → IsCurrent vars slots b → IsCurrent vars slots c
  current_mended b c mends now = ∥∥₁_elim now ∥∥₁_prop (λ it. ∥∥₁_map (mends.states it.0 it.1 ∣ it.3 ∣₁) (λ held. (it.0, it.1, it.2, held)))

  -- and no content of that version represents a state by another
  current_alone : RepresentsOne → vars ≤ 2 ^ 16 → (c : List ℕ) → IsCurrent vars slots c → NeedsNoMigration vars slots c
  current_alone one few c now = λ q t other. ∥∥₁_elim now (hlevel props) (λ it. sym (ap (λ (p : Position). p.version) (one vars slots it.0 q it.1 t c few ∣ it.3 ∣₁ other).0) ∙ it.2)

  -- so an opening leaves only contents of version 2 where there were no others
  pub current_after : RepresentsOne → vars ≤ 2 ^ 16 → (old new : DeviceView) → IsDevice old → (new.keeps_model → old.keeps_model) → LeavesOnly old (IsCurrent vars slots) → Mending vars slots old new → LeavesOnly new (IsCurrent vars slots)
  current_after one few old new device model before mends = record {
    each = λ k c left.
        let gates = mends.gates (current_alone one few old.seen (before.each (model k) old.seen (device.seen_may_stay (model k)))) in
        let from = gates.crash.each k c left in
        current_mended from.0 c from.2 (before.each (model k) from.0 from.1);
  }

  -- and is not refused for want of a generation
  pub current_not_spent : SpentIsAtLast → vars ≤ 2 ^ 16 → (d : DeviceView) → IsDevice d → d.keeps_model → LeavesOnly d (IsCurrent vars slots) → IsRefusedBy vars slots d.seen Spent → ⊥
  current_not_spent last few d device keeps only refused = ∥∥₁_elim (only.each keeps d.seen (device.seen_may_stay keeps)) (hlevel props) (λ it.
      let clash : Two ≡ One = sym it.2 ∙ (last vars slots it.0 it.1 d.seen few refused ∣ it.3 ∣₁).version in cc)

-- with a core and without one, a world's device leaves only contents of version 2
held_current : {D T : Type 0} {d t : _} (h : Held D T d t) → LeavesOnly (d.view (held_disk h)) (IsCurrent (layout_in h).vars (layout_in h).slots)
held_current (With both) = both.journal.current
held_current (Without left) = left.current

pub world_current : {D T S : Type 0} {d t s : _} (w : World D T S d t s) → LeavesOnly (world_view w) (IsCurrent w.layout.vars w.layout.slots)
world_current w =
    subst (λ (v : ℕ). LeavesOnly (world_view w) (IsCurrent v w.layout.slots)) w.same_vars
    (subst (λ (n : ℕ). LeavesOnly (world_view w) (IsCurrent (layout_in (held_of w)).vars n)) w.same_slots (held_current (held_of w)))
