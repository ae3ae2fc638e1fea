-- What a content is put over, and what a crash leaves meanwhile.
use Rattle.std.proofs.Common.{◌≡◌, inl, inr, ⊎_elim, ℕ, zero, suc, ◌+◌, ◌-◌, ◌≤◌, ◌<◌, List, [], ◌∷◌, length, take, drop, refl, sym, ◌∙◌, subst, arith}
use Rattle.std.proofs.lemmas.List.{length-drop, take_all}
use Rattle.std.specs.Prelude.{slice_index}
use Rattle.tmem_disk.specs.Disk.{DeviceView, IsDevice, AtEachMoment, IsSynced}
use Rattle.tmem_disk.proofs.Laws.{AtEachMoment-elapsed, either_time}
use Rattle.tmem_gate.specs.Calls.{OnlyReads}
use Rattle.tmem_gate.specs.Cells.{LeftClosed, LeftOpen}
use Rattle.tmem_gate.specs.Changes.{ChangeOutcome, WasMade, NotMade, InDoubt, NotBegun, Meanwhile, Puts}
use Rattle.tmem_gate.specs.Gate.{IsClosed, IsOpenOver, StandsClosed}
use Rattle.tmem_gate.proofs.Laws.{closed_by}
use Rattle.tmem_init.specs.Placed.{IsBetween, IsBlankFor, IsNotHalf, LeftByMaking}

-- a gate of 0 is closed
pub closed_at_zero : (c : List ℕ) → slice_index c 0 ≡ 0 → IsClosed 0 c
closed_at_zero [] is = record { not_open = λ e. cc }
closed_at_zero (x ∷ xs) is = closed_by 0 x (x ∷ xs) refl (λ e. absurd (omega (arith, is, e)))

-- the first byte of the first bytes
first_taken : (c : List ℕ) (n : ℕ) → 1 ≤ n → slice_index (take n c) 0 ≡ slice_index c 0
first_taken [] zero some = refl
first_taken [] (suc n) some = refl
first_taken (x ∷ xs) zero some = absurd (omega arith)
first_taken (x ∷ xs) (suc n) some = refl

module _ (content : List ℕ) (some : 1 ≤ length content) (old mid : DeviceView) (device : IsDevice old) (model : mid.keeps_model → old.keeps_model) (reads_only : OnlyReads old mid) where
  -- a device that was looked at, which is synced and blank, stands closed
  pub stands_closed : IsSynced old → (mid.keeps_model → IsBlankFor content (take (length content) old.seen)) → StandsClosed 0 mid
  stands_closed synced blank = record {
    each = λ k c left.
        let gate = (blank k).gate in
        subst (IsClosed 0) (sym (synced (model k) c (reads_only.crash.each k c left))) (closed_at_zero old.seen (sym (first_taken old.seen (length content) some) ∙ gate));
  }

  -- while it is looked at, a crash leaves what it might have left before
  pub while_looking : AtEachMoment old mid (LeftByMaking content old)
  while_looking = AtEachMoment-elapsed old mid old.may_leave (LeftByMaking content old) device model reads_only.time (record { each = λ k c left. inl left }) (λ k c left. inl left)

  -- and while a cell is put there, it leaves that closed or whole
  module _ (bytes : List ℕ) (is : bytes ≡ drop 1 content) (new : DeviceView) (kept : new.keeps_model → mid.keeps_model) (closed : StandsClosed 0 mid) where
    not_half : (k : new.keeps_model) (c : List ℕ) (o : ChangeOutcome) → Meanwhile (LeftClosed 0 (length bytes)) (LeftOpen 0 bytes mid.seen) mid o c → IsNotHalf content c
    not_half k c WasMade from = ⊎_elim (λ w. inl w.gate) (λ v. inr (subst (λ (l : List ℕ). IsOpenOver 0 l c) is v.cell)) from.2
    not_half k c NotMade from = inl (from.2).gate
    not_half k c InDoubt from = ⊎_elim (λ w. inl w.gate) (λ v. inr (subst (λ (l : List ℕ). IsOpenOver 0 l c) is v.cell)) from.2
    not_half k c NotBegun left = inl (closed.each (kept k) c left)

    pub while_putting : (o : ChangeOutcome) → Puts 0 (1 + length bytes) (LeftClosed 0 (length bytes)) (LeftOpen 0 bytes mid.seen) mid new o → AtEachMoment old new (LeftByMaking content old)
    while_putting o puts = record {
      each = λ k c left. ⊎_elim
          (λ was. while_looking.each (kept k) c was)
          (λ now. inr (not_half k c o (puts.any_moment.each k c now)))
          (either_time old mid new _ kept reads_only.time.later puts.elsewhere.time k c left);
    }

-- all that stands behind the first byte
pub behind_first : (content : List ℕ) → take (length content - 1) (drop 1 content) ≡ drop 1 content
behind_first content = take_all (length content - 1) (drop 1 content) (omega (arith, length-drop 1 content))

-- no time goes by where nothing is called
pub at_once : (content : List ℕ) (d : DeviceView) → IsDevice d → AtEachMoment d d (LeftByMaking content d)
at_once content d device = record { each = λ k c left. inl (device.only_now c k left) }

-- what lies between is blank too
pub between_blank : (content found left : List ℕ) → IsBlankFor content found → IsBetween content found left → IsBlankFor content left
between_blank content found left blank between = record {
  gate = between.gate ∙ blank.gate;
  each = λ k below. ⊎_elim
      (λ same. ⊎_elim (λ none. inl (same ∙ none)) (λ is. inr (same ∙ is)) (blank.each k (subst (λ (n : ℕ). k < n) between.size below)))
      (λ is. inr is)
      (between.each k below);
}
