-- What opening leaves of a device: recovery, and then an image of version 2 where the one that was found is of version 1.
use Rattle.std.proofs.Common.{◌≡◌, ◌⊎◌, inl, inr, ℕ, ◌+◌, ◌≤◌, ◌*◌, ◌^◌, List, sym, subst}
use Rattle.std.specs.Prelude.{Result, Ok, Err, IfOk, IfErr}
use Rattle.std.proofs.Math.Logic.{∥∥₁_map}
use Rattle.tmem_disk.specs.Disk.{DeviceView, IsDevice, LeavesOnly, AtEachMoment}
use Rattle.tmem_fault.specs.declared.fault.Fault.{Fault}
use Rattle.tmem_fault.specs.declared.fault.Fault.TheVariants.{Device, Spent}
use Rattle.tmem_disk.proofs.Laws.{AtEachMoment-more, seen-left}
use Rattle.tmem_gate.specs.Calls.{WritesWithin}
use Rattle.tmem_gate.proofs.Laws.{WritesWithin-trans}
use Rattle.tmem_record.specs.Layout.{image_at, image_size, slot_at}
use Rattle.tmem_effect.specs.State.{State}
use Rattle.tmem_state.specs.declared.version.Version.TheVariants.{One, Two}
use Rattle.tmem_redolog.proofs.Laws.{reads_only_given}
use Rattle.tmem_journal.specs.Mended.{MendsDevice, RecoveredBy, RecoversDevice}
use Rattle.tmem_journal.specs.Refusals.{IsRefusedBy, IsWhyFound}
use Rattle.tmem_journal.specs.Contents.{Position, ContentRepresents, ContentRepresentsState, IsSpentAt}
use Rattle.tmem_journal.proofs.Building.{both_moments}
use Rattle.tmem_journal.proofs.Recovers.{Recovers-one, RecoversDevice-mends}
use Rattle.tmem_journal.proofs.Recovered.{still_mends}

-- what is said of what a call wrote says nothing of a device that does not keep the model
within_given : (at n : ℕ) (old new : DeviceView) → (new.keeps_model → WritesWithin at n old new) → WritesWithin at n old new
within_given at n old new it = record {
  seen = λ k. (it k).seen k;
  crash = record { each = λ k c left. (it k).crash.each k c left };
  any_moment = record { each = λ k c left. (it k).any_moment.each k c left };
  time = record {
    later = λ k. (it k).time.later k;
    nothing_else = λ k t c since left. (it k).time.nothing_else k t c since left;
    keeps = λ k t c since left. (it k).time.keeps k t c since left;
    before_or_since = λ k t c since left. (it k).time.before_or_since k t c since left;
  };
}

pub mends_given : (vars slots : ℕ) (old new : DeviceView) → (new.keeps_model → MendsDevice vars slots old new) → MendsDevice vars slots old new
mends_given vars slots old new it = record {
  any_moment = record { each = λ k c left. (it k).any_moment.each k c left };
  seen = λ k. (it k).seen k;
  elsewhere = within_given (slot_at vars 0) (4096 * slots) old new (λ k. (it k).elsewhere);
  reads_only = λ p s stands closed. reads_only_given old new (λ k. (it k).reads_only p s stands closed);
  damaged_reads_only = λ none. reads_only_given old new (λ k. (it k).damaged_reads_only none);
}

-- no call at all
pub still_recovers : (vars slots : ℕ) (d : DeviceView) → IsDevice d → RecoversDevice vars slots d d
still_recovers vars slots d device = RecoversDevice-mends vars slots d d (still_mends vars slots d device)

-- what a crash leaves, it leaves at each moment of no call
pub no_call : (d : DeviceView) (P Q : List ℕ → Type 0) → IsDevice d → LeavesOnly d P → ((c : List ℕ) → P c → Q c) → AtEachMoment d d Q
no_call d P Q device only more = record { each = λ k c left. more c (only.each k c (device.only_now c k left)) }

-- Recovery found a state, and then its image was written.
module _ (vars slots : ℕ) (few : vars ≤ 2 ^ 16) (p : Position) (s : State) (old mid new : DeviceView) (device : IsDevice old) (now : IsDevice new) (model : mid.keeps_model → old.keeps_model) (model_now : new.keeps_model → mid.keeps_model)
    (mends : MendsDevice vars slots old mid) (found : mid.keeps_model → ContentRepresents vars slots p s old.seen) where
  from_seen : mid.keeps_model → (c : List ℕ) → ContentRepresentsState vars slots s c → RecoveredBy vars slots old c
  from_seen k c stands = (old.seen, device.seen_may_stay (model k), Recovers-one vars slots few p s old.seen c (found k) stands)

  pub migrating : WritesWithin (image_at vars 0) (2 * image_size vars + 4096 * slots) mid new → AtEachMoment mid new (ContentRepresentsState vars slots s) → LeavesOnly new (ContentRepresentsState vars slots s) → RecoversDevice vars slots old new
  migrating within during after =
      let recovered = RecoversDevice-mends vars slots old mid mends in
      record {
        any_moment = both_moments old mid new (RecoveredBy vars slots old) _ model_now (λ k. mends.elsewhere.time.later k) within.time recovered.any_moment
            (AtEachMoment-more mid new (ContentRepresentsState vars slots s) (RecoveredBy vars slots old) during (λ k c stands. from_seen (model_now k) c stands));
        seen = λ k. Recovers-one vars slots few p s old.seen new.seen (found (model_now k)) (seen-left new (ContentRepresentsState vars slots s) now after k);
        elsewhere = WritesWithin-trans (image_at vars 0) (2 * image_size vars + 4096 * slots) old mid new model_now recovered.elsewhere within;
      }

-- a state that stands where every crash leaves it represents itself
pub any_position : {vars slots : ℕ} {p : Position} {s : State} {c : List ℕ} → ContentRepresents vars slots p s c → ContentRepresentsState vars slots s c
any_position {p = p} stands = ∥∥₁_map stands (λ held. (p, held))

-- what two facts of a success give, and one of a refusal
pub if_ok_2 : {T E : Type 0} (A B C : T → Type 0) → ((x : T) → A x → B x → C x) → (r : Result T E) → IfOk r A → IfOk r B → IfOk r C
if_ok_2 A B C f (Ok x) a b = f x a b
if_ok_2 A B C f (Err e) a b = tt

pub if_err : {T E : Type 0} (A B : E → Type 0) → ((e : E) → A e → B e) → (r : Result T E) → IfErr r A → IfErr r B
if_err A B f (Ok x) a = tt
if_err A B f (Err e) a = f e a

-- an image is of one version
pub not_both : One ≡ Two → ⊥
not_both e = cc

-- what failed is not spent
pub not_spent : Device ≡ Spent → ⊥
not_spent e = cc

-- why a state that was found was not migrated
pub not_migrated : (vars slots : ℕ) (K : Type 0) (p : Position) (s : State) (c : List ℕ) (f : Fault) → (K → ContentRepresents vars slots p s c) → (f ≡ Device) ⊎ ((f ≡ Spent) × IsSpentAt p) → IsWhyFound (λ g. K → IsRefusedBy vars slots c g) f
not_migrated vars slots K p s c f found (inl is) = subst (IsWhyFound (λ g. K → IsRefusedBy vars slots c g)) (sym is) tt
not_migrated vars slots K p s c f found (inr it) = subst (IsWhyFound (λ g. K → IsRefusedBy vars slots c g)) (sym it.0) (λ k. ∥∥₁_map (found k) (λ held. (p, s, held, it.1)))
