-- What opening leaves of a device: its log is read, and then gates behind it are closed.
use Rattle.std.proofs.Common.{◌≡◌, ◌≤◌, ◌*◌, ◌^◌, ℕ, List, sym, ◌∙◌, ap, subst, arith}
use Rattle.std.proofs.Math.Logic.{∥∥₁_elim}
use Rattle.std.proofs.Props.{props}
use Rattle.tmem_disk.specs.Disk.{DeviceView, IsDevice, Elapses, IsSynced}
use Rattle.tmem_disk.proofs.Laws.{Elapses-more, Elapses-trans, AtEachMoment-elapsed}
use Rattle.tmem_gate.specs.Calls.{OnlyReads, MadeBy}
use Rattle.tmem_gate.specs.Gate.{IsClosed}
use Rattle.tmem_gate.proofs.Laws.{by_look, OnlyReads-refl, OnlyReads-trans, WritesWithin-wider, WritesWithin-trans}
use Rattle.tmem_record.specs.Layout.{slot_at}
use Rattle.tmem_effect.specs.State.{State}
use Rattle.tmem_redolog.specs.Closes.{bytes_from, Keeps, ReadClosed, Closes}
use Rattle.tmem_redolog.proofs.Laws.{reads_only_given}
use Rattle.tmem_journal.specs.Mended.{Mends, MendedBy, MendsDevice}
use Rattle.tmem_journal.specs.Contents.{Position, ContentRepresents}
use Rattle.tmem_journal.proofs.Logged.{mended, Mends-refl}
use Rattle.tmem_journal.proofs.Unique.{one_state_at_most}

-- what a crash might have left before it might have left but for gates, none of which was closed
pub unmended : (vars slots : ℕ) (d : DeviceView) (c : List ℕ) → d.may_leave c → MendedBy vars slots d c
unmended vars slots d c left = (c, left, Mends-refl vars slots c)

-- a call that writes nothing
module _ (vars slots : ℕ) (old new : DeviceView) (reads_only : OnlyReads old new) where
  looking_time : Elapses old new (MendedBy vars slots old)
  looking_time = Elapses-more old new old.may_leave (MendedBy vars slots old) reads_only.time (λ k c left. unmended vars slots old c left)

  pub looking_mends : IsDevice old → (new.keeps_model → old.keeps_model) → MendsDevice vars slots old new
  looking_mends device model = record {
    any_moment = AtEachMoment-elapsed old new (MendedBy vars slots old) (MendedBy vars slots old) device model looking_time (record { each = λ k c left. unmended vars slots old c left }) (λ k c is. is);
    seen = λ k. subst (λ (c : List ℕ). Mends vars slots old.seen c) (sym (reads_only.seen k)) (Mends-refl vars slots old.seen);
    elsewhere = by_look (slot_at vars 0) (4096 * slots) old new device model reads_only;
    reads_only = λ p s stands closed. reads_only;
    damaged_reads_only = λ none. reads_only;
  }

-- no call at all
pub still_mends : (vars slots : ℕ) (d : DeviceView) → IsDevice d → MendsDevice vars slots d d
still_mends vars slots d device = looking_mends vars slots d d (OnlyReads-refl d) device (λ k. k)

-- A reading that found a state, after which the device is synced, and then a call that closes gates behind the log.
module _ (vars slots : ℕ) (few : vars ≤ 2 ^ 16) (p : Position) (fits : p.used ≤ slots) (s : State) (old mid new : DeviceView) (reads_only : OnlyReads old mid) (synced : IsSynced mid) (model : mid.keeps_model → old.keeps_model)
    (model_now : new.keeps_model → mid.keeps_model) (found : mid.keeps_model → ContentRepresents vars slots p s old.seen) where
  by_keeps : mid.keeps_model → (c : List ℕ) → MadeBy (Keeps vars slots p.generation p.used) mid c → MendedBy vars slots old c
  by_keeps k c from =
      let was : from.0 ≡ old.seen = synced k from.0 from.1 ∙ reads_only.seen k in
      (from.0, reads_only.crash.each k from.0 from.1, mended vars slots few p fits s from.0 c (subst (λ (b : List ℕ). ContentRepresents vars slots p s b) (sym was) (found k)) from.2)

  pub closing_mends : IsDevice old → Closes vars slots p.generation p.used mid new → (ReadClosed vars p.used slots mid → OnlyReads mid new) → MendsDevice vars slots old new
  closing_mends device closes idle = record {
    any_moment = AtEachMoment-elapsed old new (MendedBy vars slots old) (MendedBy vars slots old) device (λ k. model (model_now k))
        (Elapses-trans old mid new (MendedBy vars slots old) model_now (looking_time vars slots old mid reads_only) (Elapses-more mid new (MadeBy (Keeps vars slots p.generation p.used) mid) (MendedBy vars slots old) (closes.time synced) (λ k c from. by_keeps (model_now k) c from)))
        (record { each = λ k c left. unmended vars slots old c left }) (λ k c is. is);
    seen = λ k.
        let was = reads_only.seen (model_now k) in
        mended vars slots few p fits s old.seen new.seen (found (model_now k)) (subst (λ (b : List ℕ). Keeps vars slots p.generation p.used b new.seen) was (closes.seen k));
    elsewhere = WritesWithin-trans (slot_at vars 0) (4096 * slots) old mid new model_now (by_look (slot_at vars 0) (4096 * slots) old mid device model reads_only)
        (WritesWithin-wider (slot_at vars p.used) (bytes_from p.used slots) (slot_at vars 0) (4096 * slots) (omega arith) (omega (arith, fits)) mid new closes.elsewhere);
    -- with each of them closed before, nothing is written
    reads_only = λ q t other closed. reads_only_given old new (λ k.
        let same : p.used ≡ q.used = ∥∥₁_elim (found (model_now k)) (hlevel props) (λ held. ∥∥₁_elim other (hlevel props) (λ it. ap (λ (x : Position). x.used) (one_state_at_most vars slots few old.seen p q s t held it).0)) in
        let read : ReadClosed vars p.used slots mid = λ j above below. subst (λ (b : List ℕ). IsClosed (slot_at vars j) b) (sym (reads_only.seen (model_now k))) (closed j (subst (λ (m : ℕ). m ≤ j) same above) below) in
        OnlyReads-trans old mid new model_now reads_only (idle read));
    -- what represents no state was not found to represent one
    damaged_reads_only = λ none. reads_only_given old new (λ k. absurd (none p s (found (model_now k))));
  }
