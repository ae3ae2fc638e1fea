-- How an opening is refused, by what the journal and the core say.
use Rattle.std.proofs.Common.{◌≡◌, ◌≢◌, ◌⊎◌, inl, inr, ⊎_elim, ℕ, Some, Ok, Err, refl, sym, ◌∙◌, subst}
use Rattle.std.proofs.Math.Logic.{∥∥₁_elim}
use Rattle.std.proofs.Props.{props}
use Rattle.tmem_disk.specs.Disk.{DeviceView, IsDevice, SameDevice}
use Rattle.tmem_fault.specs.declared.fault.Fault.{Fault}
use Rattle.tmem_fault.specs.declared.fault.Fault.TheVariants as fault
use Rattle.tmem_gate.specs.Calls.{Uses, OnlyReads, failures_after}
use Rattle.tmem_effect.specs.State.{State}
use Rattle.tmem_invariants.specs.Meanings.{IsSound}
use Rattle.tmem_core.specs.Opening.{IsOpeningRefusal, opening_fault}
use Rattle.tmem_core.specs.Program.{Program}
use Rattle.tmem_journal.specs.Calls.{FitsOn}
use Rattle.tmem_journal.specs.Journals.{IsOpeningRefused, IsOpeningFailure}
use Rattle.tmem_journal.specs.Mended.{MendsDevice, RecoversDevice}
use Rattle.tmem_journal.specs.Refusals.{IsWhy, IsRefusedBy}
use Rattle.tmem_journal.specs.Contents.{Position, NeedsNoMigration}
use Rattle.tmem_opening.specs.Opening.{ClosesGates, Mending, NamesInvariant, TellsOfContent, FindsState, OpeningRefused}

-- a refusal that tells of the content is no failed call, nor is it that no image can follow
tells_no_device : (f : Fault) → TellsOfContent f → (f ≢ fault.Device) × (f ≢ fault.Spent)
tells_no_device fault.NotFormatted tells = (λ is. cc, λ is. cc)
tells_no_device fault.Damaged tells = (λ is. cc, λ is. cc)
tells_no_device fault.Geometry tells = (λ is. cc, λ is. cc)
tells_no_device _ tells = absurd tells

-- nor does a core's refusal tell of it
tells_none : (f : Fault) → IsOpeningRefusal f → TellsOfContent f → ⊥
tells_none fault.Memory refused tells = tells
tells_none (fault.Missing name) refused tells = tells
tells_none (fault.Broken name) refused tells = tells
tells_none _ refused tells = refused

-- nor is it a failed call
pub no_failure : (f : Fault) → IsOpeningRefusal f → (n : ℕ) → n ≡ failures_after f n
no_failure fault.Memory refused n = refl
no_failure (fault.Missing name) refused n = refl
no_failure (fault.Broken name) refused n = refl
no_failure _ refused n = absurd refused

-- it is for want of memory, or it names an invariant
memory_or_named : (f : Fault) → IsOpeningRefusal f → (f ≡ fault.Memory) ⊎ (NamesInvariant f × (f ≢ fault.Memory))
memory_or_named fault.Memory refused = inl refl
memory_or_named (fault.Missing name) refused = inr (tt, λ is. cc)
memory_or_named (fault.Broken name) refused = inr (tt, λ is. cc)
memory_or_named _ refused = absurd refused

-- want of memory says nothing of a content
by_memory : (P : Fault → Type 0) (f : Fault) → f ≡ fault.Memory → IsWhy P f
by_memory P f is = subst (IsWhy P) (sym is) tt

-- a device is the one that it is
pub same : (d : DeviceView) → SameDevice d d
same d = record { capacity = refl; failures = refl; last_fault = refl; model = (λ k. k, λ k. k); seen = refl; left = λ c. (λ l. l, λ l. l); moment = refl; since = λ t c. (λ l. l, λ l. l) }

-- one of two sound states is sound
sound_either : (p : Program) (s a b : State) → ∥ (s ≡ a) ⊎ (s ≡ b) ∥₁ → IsSound p.tests p.names a.names a.values → IsSound p.tests p.names b.names b.values → (¬ IsSound p.tests p.names s.names s.values) → ⊥
sound_either p s a b either one other un = ∥∥₁_elim either (hlevel props) (⊎_elim
    (λ (is : s ≡ a). un (subst (λ (x : State). IsSound p.tests p.names x.names x.values) (sym is) one))
    (λ (is : s ≡ b). un (subst (λ (x : State). IsSound p.tests p.names x.names x.values) (sym is) other)))

-- a core of one of two sound states lacks memory at the most
pub only_memory : (p : Program) (s a b : State) (f : Fault) → IsOpeningRefusal f → (f ≢ fault.Memory → ¬ IsSound p.tests p.names s.names s.values)
    → ∥ (s ≡ a) ⊎ (s ≡ b) ∥₁ → IsSound p.tests p.names a.names a.values → IsSound p.tests p.names b.names b.values → IsOpeningFailure f
only_memory p s a b f refused so either one other = ⊎_elim (λ is. inl is) (λ named. absurd (sound_either p s a b either one other (so named.1))) (memory_or_named f refused)

-- what a crash leaves after an opening is among what one leaves in it
closes : (vars slots : ℕ) (old new : DeviceView) → IsDevice new → MendsDevice vars slots old new → ClosesGates vars slots old new
closes vars slots old new device mends = record {
  seen = mends.seen;
  any_moment = mends.any_moment;
  crash = record { each = λ k c left. mends.any_moment.each k c (device.counts_now old.moment c k (mends.elsewhere.time.later k) left) };
  elsewhere = mends.elsewhere;
  reads_only = mends.reads_only;
}

pub mending : (vars slots : ℕ) (old new : DeviceView) → IsDevice new → RecoversDevice vars slots old new → (NeedsNoMigration vars slots old.seen → MendsDevice vars slots old new) → Mending vars slots old new
mending vars slots old new device recovers mends = record {
  recovers = recovers;
  crash = record { each = λ k c left. recovers.any_moment.each k c (device.counts_now old.moment c k (recovers.elsewhere.time.later k) left) };
  gates = λ none. closes vars slots old new device (mends none);
}

module _ (AreTheirs : Program → Type 0) (vars slots : ℕ) (old new : DeviceView) (f : Fault) (mends : Mending vars slots old new) where
  -- no journal was opened
  pub journal_refused : IsDevice new → Uses {T = Unit {0}} old new (Err f) → IsOpeningRefused old vars slots f new → (f ≢ fault.Device → f ≢ fault.Spent → OnlyReads old new) → (f ≡ fault.Spent → MendsDevice vars slots old new)
      → (f ≡ fault.Memory → SameDevice old new) → OpeningRefused AreTheirs vars slots old f new
  journal_refused device uses refused reads_only spent untouched = record {
    uses = uses;
    mends = mends;
    numbers = refused.numbers;
    why = inl refused.why;
    memory = λ is. inl (untouched is);
    early = λ tells. reads_only (tells_no_device f tells).0 (tells_no_device f tells).1;
    spent = λ is. closes vars slots old new device (spent is);
  }

  -- a journal was opened, and no core made of its state
  pub core_refused : Uses {T = Unit {0}} old new (Ok tt) → FitsOn vars slots old.capacity → IsOpeningRefusal f → (position : Position) (s : State) → (new.keeps_model → FindsState vars slots old new position s)
      → (f ≢ fault.Memory → (p : Program) → AreTheirs p → (opening_fault p s ≡ Some f) × (¬ IsSound p.tests p.names s.names s.values))
      → (f ≡ fault.Memory → (p : Program) → AreTheirs p → IsSound p.tests p.names s.names s.values) → OpeningRefused AreTheirs vars slots old f new
  core_refused uses fits refused position s stands unsound sound = record {
    uses = record { capacity = uses.capacity; model = uses.model; failures = uses.failures ∙ no_failure f refused old.failures };
    mends = mends;
    numbers = λ unfit. absurd (unfit fits);
    why = ⊎_elim (λ is. inl (by_memory (λ g. new.keeps_model → FitsOn vars slots old.capacity → IsRefusedBy vars slots old.seen g) f is)) (λ named. inr (named.0, (position, s, stands, unsound named.1))) (memory_or_named f refused);
    memory = λ is. inr (position, s, stands, sound is);
    early = λ tells. absurd (tells_none f refused tells);
    spent = λ is. absurd (subst IsOpeningRefusal is refused);
  }
