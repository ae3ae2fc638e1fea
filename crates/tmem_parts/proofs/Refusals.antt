-- Why an opening of some bytes is refused, by what the opening of a device that holds them says.
use Rattle.std.proofs.Common.{◌≡◌, ◌⊎◌, ⊎_elim, ℕ, List, length, sym, subst}
use Rattle.tmem_disk.specs.Disk.{DeviceView}
use Rattle.tmem_fault.specs.declared.fault.Fault.{Fault}
use Rattle.tmem_fault.specs.declared.fault.Fault.TheVariants as fault
use Rattle.tmem_effect.specs.State.{State}
use Rattle.tmem_journal.specs.Calls.{FitsOn}
use Rattle.tmem_journal.specs.Journals.{IsOpeningRefused}
use Rattle.tmem_journal.specs.Mended.{IsFoundAt}
use Rattle.tmem_journal.specs.Refusals.{IsWhy, IsRefusedBy}
use Rattle.tmem_journal.specs.Contents.{Position}
use Rattle.tmem_parts.specs.Parts.{IsStateFound, IsWhyRefused}

-- a reason that says more says this too
why_weaker : (P Q : Fault → Type 0) → ((g : Fault) → P g → Q g) → (f : Fault) → IsWhy P f → IsWhy Q f
why_weaker P Q more fault.Memory why = tt
why_weaker P Q more fault.Device why = tt
why_weaker P Q more fault.Spent why = more fault.Spent why
why_weaker P Q more fault.NotFormatted why = more fault.NotFormatted why
why_weaker P Q more fault.Damaged why = more fault.Damaged why
why_weaker P Q more fault.Geometry why = more fault.Geometry why
why_weaker P Q more _ why = absurd why

-- the copy of the bytes was not made, or the state not copied
pub not_copied : (vars slots : ℕ) (c : List ℕ) (f : Fault) → FitsOn vars slots (length c) → (f ≡ fault.Memory) ⊎ (f ≡ fault.Device) → IsWhyRefused vars slots c f
not_copied vars slots c f fits is = record {
  numbers = λ unfit. absurd (unfit fits);
  why = λ same. ⊎_elim (λ (memory : f ≡ fault.Memory). subst (IsWhy (IsRefusedBy vars slots c)) (sym memory) tt) (λ (device : f ≡ fault.Device). subst (IsWhy (IsRefusedBy vars slots c)) (sym device) tt) is;
}

-- the opening of a device that holds the bytes was refused
pub device_refused : (vars slots : ℕ) (c : List ℕ) (old new : DeviceView) (f : Fault) → old.seen ≡ c → old.capacity ≡ length c → new.keeps_model → IsOpeningRefused old vars slots f new → IsWhyRefused vars slots c f
device_refused vars slots c old new f seen long keeps it = record {
  numbers = λ unfit. it.numbers (λ fits. unfit (subst (FitsOn vars slots) long fits));
  why = λ fits. why_weaker (λ g. new.keeps_model → FitsOn vars slots old.capacity → IsRefusedBy vars slots old.seen g) (IsRefusedBy vars slots c) (λ g by. subst (λ (b : List ℕ). IsRefusedBy vars slots b g) seen (by keeps (subst (FitsOn vars slots) (sym long) fits))) f it.why;
}

-- it found a state
pub state_found : (vars slots : ℕ) (b c : List ℕ) (s t : State) (p : Position) → b ≡ c → s ≡ t → IsFoundAt vars slots b s p → IsStateFound vars slots c t
state_found vars slots b c s t p seen same found = (p, subst (λ (x : State). IsFoundAt vars slots c x p) same (subst (λ (x : List ℕ). IsFoundAt vars slots x s p) seen found))
