-- What every record of calls keeps to, so that a file is a device whatever its calls were.
use Rattle.std.specs.Prelude.{◌≡◌, ℕ, ◌+◌, ◌≤◌, Bool, true, false, List, [], ◌∷◌, length}
use Rattle.std.proofs.Common.{inl, ⊎_elim, refl, sym, ◌∙◌, ap, subst}
use Rattle.std.proofs.Math.Nat.{le_trans, le-max_left, le-max_right, not-suc-le_self}
use Rattle.tmem_disk.proofs.Laws.{SameOutside-overwritten, SameOutside-refl}
use Rattle.tmem_file.specs.Record.{FileEvent, gave, holds, tore, synced, lost, seen_after, has_lost, by_case, LeftAfter, FileLeftSince, end_of, reach}

-- what follows from each of two facts follows from the one that holds
pub from_case : {P Q R : Type 0} (b : Bool) → (P → R) → (Q → R) → by_case b P Q → R
from_case true f g case = f case
from_case false f g case = g case

-- where both hold, the one does
of_both : {P Q : Type 0} (b : Bool) → P → Q → by_case b P Q
of_both true p q = p
of_both false p q = q

module _ (start : List ℕ) where
  -- the range of the newest call is within the file, and so are those of the earlier ones
  newest : (event : FileEvent) (earlier : List FileEvent) → reach (event ∷ earlier) ≤ length start → end_of event ≤ length start
  newest event earlier fits = le_trans (le-max_left (end_of event) (reach earlier)) fits

  others : (event : FileEvent) (earlier : List FileEvent) → reach (event ∷ earlier) ≤ length start → reach earlier ≤ length start
  others event earlier fits = le_trans (le-max_right (end_of event) (reach earlier)) fits

  -- what a read gives is as long as the file
  pub seen_long : (events : List FileEvent) → reach events ≤ length start → length (seen_after start events) ≡ length start
  seen_long [] fits = refl
  seen_long (gave at bytes ∷ earlier) fits = seen_long earlier (others (gave at bytes) earlier fits)
  seen_long (holds at bytes ∷ earlier) fits =
      let long = seen_long earlier (others (holds at bytes) earlier fits) in
      (SameOutside-overwritten (seen_after start earlier) at bytes (subst (λ (n : ℕ). at + length bytes ≤ n) (sym long) (newest (holds at bytes) earlier fits))).size ∙ long
  seen_long (tore at n ∷ earlier) fits = seen_long earlier (others (tore at n) earlier fits)
  seen_long (synced ∷ earlier) fits = seen_long earlier (others synced earlier fits)
  seen_long (lost ∷ earlier) fits = seen_long earlier (others lost earlier fits)

  -- so a write that fits into the file fits into that
  room : (at : ℕ) (bytes : List ℕ) (earlier : List FileEvent) → reach (holds at bytes ∷ earlier) ≤ length start → at + length bytes ≤ length (seen_after start earlier)
  room at bytes earlier fits = subst (λ (n : ℕ). at + length bytes ≤ n) (sym (seen_long earlier (others (holds at bytes) earlier fits))) (newest (holds at bytes) earlier fits)

  -- what a crash may leave is as long as the file
  pub left_long : (events : List FileEvent) → reach events ≤ length start → (c : List ℕ) → LeftAfter start events c → length c ≡ length start
  left_long [] fits c left = left
  left_long (gave at bytes ∷ earlier) fits c left = left_long earlier (others (gave at bytes) earlier fits) c left
  left_long (holds at bytes ∷ earlier) fits c left = left.2.size ∙ left_long earlier (others (holds at bytes) earlier fits) left.0 left.1
  left_long (tore at n ∷ earlier) fits c left = left.2.size ∙ left_long earlier (others (tore at n) earlier fits) left.0 left.1
  left_long (synced ∷ earlier) fits c left =
      let within = others synced earlier fits in
      from_case (has_lost earlier) (λ before. left_long earlier within c before) (λ is. ap (λ (l : List ℕ). length l) is ∙ seen_long earlier within) left
  left_long (lost ∷ earlier) fits c left = left_long earlier (others lost earlier fits) c left

  -- a crash may leave what a read gives
  pub seen_stays : (events : List FileEvent) → reach events ≤ length start → LeftAfter start events (seen_after start events)
  seen_stays [] fits = refl
  seen_stays (gave at bytes ∷ earlier) fits = seen_stays earlier (others (gave at bytes) earlier fits)
  seen_stays (holds at bytes ∷ earlier) fits =
      (seen_after start earlier, seen_stays earlier (others (holds at bytes) earlier fits), SameOutside-overwritten (seen_after start earlier) at bytes (room at bytes earlier fits))
  seen_stays (tore at n ∷ earlier) fits = (seen_after start earlier, seen_stays earlier (others (tore at n) earlier fits), SameOutside-refl at n (seen_after start earlier))
  seen_stays (synced ∷ earlier) fits = of_both (has_lost earlier) (seen_stays earlier (others synced earlier fits)) refl
  seen_stays (lost ∷ earlier) fits = seen_stays earlier (others lost earlier fits)

  -- this moment is one of those since an earlier one
  pub left_now : (events : List FileEvent) (t : ℕ) (c : List ℕ) → LeftAfter start events c → FileLeftSince start events t c
  left_now [] t c left = left
  left_now (event ∷ earlier) t c left = inl left

  -- and since this moment there is no other
  pub only_now : (events : List FileEvent) (c : List ℕ) → FileLeftSince start events (length events) c → LeftAfter start events c
  only_now [] c left = left
  only_now (event ∷ earlier) c left = ⊎_elim (λ now. now) (λ before. absurd (not-suc-le_self (length earlier) before.0)) left
