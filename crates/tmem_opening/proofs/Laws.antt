-- What follows from a refusal.
use Rattle.std.proofs.Common.{◌≡◌, ◌≢◌, inl, inr, ⊎_elim, ℕ, Ok, refl, sym, subst}
use Rattle.tmem_disk.specs.Disk.{DeviceView}
use Rattle.tmem_fault.specs.declared.fault.Fault.{Fault}
use Rattle.tmem_fault.specs.declared.fault.Fault.TheVariants as fault
use Rattle.tmem_gate.specs.Calls.{Uses}
use Rattle.tmem_effect.specs.State.{State}
use Rattle.tmem_invariants.specs.Meanings.{Meanings, IsSound}
use Rattle.tmem_invariants.specs.declared.named.Invariants.{Ghosts}
use Rattle.tmem_core.specs.Program.{Program, IsProgramOf}
use Rattle.tmem_journal.specs.Calls.{FitsOn}
use Rattle.tmem_journal.specs.Journals.{IsOpeningFailure}
use Rattle.tmem_journal.specs.Refusals.{IsWhy, IsRefusedBy}
use Rattle.tmem_journal.specs.Contents.{Position}
use Rattle.tmem_opening.specs.Opening.{Mending, NamesInvariant, FindsState, FindsUnsound, OpeningRefused}

-- what no content is refused by but Spent is refused by memory or the device, or by that
by_content : (P : Fault → Type 0) (f : Fault) → ((g : Fault) → g ≢ fault.Spent → P g → ⊥) → IsWhy P f → IsOpeningFailure f
by_content P fault.Memory never why = inl refl
by_content P fault.Device never why = inr (inl refl)
by_content P fault.Spent never why = inr (inr refl)
by_content P fault.NotFormatted never why = absurd (never fault.NotFormatted (λ is. cc) why)
by_content P fault.Damaged never why = absurd (never fault.Damaged (λ is. cc) why)
by_content P fault.Geometry never why = absurd (never fault.Geometry (λ is. cc) why)
by_content P _ never why = absurd why

-- where nothing else stands against the content, nor against its state, memory or the device failed, or no image can follow
pub only_failed : {AreTheirs : Program → Type 0} {vars slots : ℕ} {old new : DeviceView} {f : Fault} → OpeningRefused AreTheirs vars slots old f new
    → ((g : Fault) → g ≢ fault.Spent → (new.keeps_model → FitsOn vars slots old.capacity → IsRefusedBy vars slots old.seen g) → ⊥) → (FindsUnsound AreTheirs vars slots old f new → ⊥) → IsOpeningFailure f
only_failed {vars = vars} {slots = slots} {old = old} {new = new} {f = f} it never sound =
    ⊎_elim (by_content (λ g. new.keeps_model → FitsOn vars slots old.capacity → IsRefusedBy vars slots old.seen g) f never) (λ un. absurd (sound un.1)) it.why

-- what is refused by Spent is refused so by its content
pub spent_content : {AreTheirs : Program → Type 0} {vars slots : ℕ} {old new : DeviceView} {f : Fault} → OpeningRefused AreTheirs vars slots old f new
    → f ≡ fault.Spent → new.keeps_model → FitsOn vars slots old.capacity → IsRefusedBy vars slots old.seen fault.Spent
spent_content {vars = vars} {slots = slots} {old = old} {new = new} it is keeps fits =
    ⊎_elim (λ why. subst (IsWhy (λ g. new.keeps_model → FitsOn vars slots old.capacity → IsRefusedBy vars slots old.seen g)) is why keeps fits) (λ un. absurd (subst NamesInvariant is un.0)) it.why

-- a store that was opened, with its state sound, is given up for want of memory
pub given_up : {T : Type 0} (t : Ghosts T) (table : T) (vars slots : ℕ) (old new : DeviceView) → Uses {T = Unit {0}} old new (Ok tt) → FitsOn vars slots old.capacity → Mending vars slots old new
    → (position : Position) (s : State) → (new.keeps_model → FindsState vars slots old new position s) → ((m : Meanings) → t.is_stated table m → IsSound m (t.names table) s.names s.values)
    → OpeningRefused (IsProgramOf t table) vars slots old fault.Memory new
given_up t table vars slots old new uses fits mends position s stands sound = record {
  uses = record { capacity = uses.capacity; model = uses.model; failures = uses.failures };
  mends = mends;
  numbers = λ unfit. absurd (unfit fits);
  why = inl tt;
  memory = λ is. inr (position, s, stands, λ p are. subst (λ ns. IsSound p.tests ns s.names s.values) (sym are.names) (sound p.tests are.tests));
  early = λ tells. absurd tells;
  spent = λ is. cc;
}

-- and its device is handed back
pub handed_back : {T D : Type 0} (t : Ghosts T) (table : T) (vars slots : ℕ) (old : DeviceView) (view : D → DeviceView) (back from : D) → back ≡ from → Uses {T = Unit {0}} old (view from) (Ok tt) → FitsOn vars slots old.capacity
    → Mending vars slots old (view from) → (position : Position) (s : State) → ((view from).keeps_model → FindsState vars slots old (view from) position s) → ((m : Meanings) → t.is_stated table m → IsSound m (t.names table) s.names s.values)
    → Mending vars slots old (view back) × OpeningRefused (IsProgramOf t table) vars slots old fault.Memory (view back)
handed_back t table vars slots old view back from is uses fits mends position s stands sound =
    subst (λ x. Mending vars slots old (view x) × OpeningRefused (IsProgramOf t table) vars slots old fault.Memory (view x)) (sym is)
    (mends, given_up t table vars slots old (view from) uses fits mends position s stands sound)

-- a refusal for more meanings is one for fewer
pub refused_for_fewer : (More Fewer : Program → Type 0) (vars slots : ℕ) (old : DeviceView) (f : Fault) (new : DeviceView) → ((p : Program) → Fewer p → More p) → OpeningRefused More vars slots old f new → OpeningRefused Fewer vars slots old f new
refused_for_fewer More Fewer vars slots old f new so it = record {
  uses = it.uses;
  mends = it.mends;
  numbers = it.numbers;
  why = ⊎_elim (λ one. inl one) (λ other. inr (other.0, (other.1.0, other.1.1, other.1.2, λ p are. other.1.3 p (so p are)))) it.why;
  memory = λ is. ⊎_elim (λ same. inl same) (λ found. inr (found.0, found.1, found.2, λ p are. found.3 p (so p are))) (it.memory is);
  early = it.early;
  spent = it.spent;
}
