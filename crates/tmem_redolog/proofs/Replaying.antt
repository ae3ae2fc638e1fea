-- The batch of one slot, and what it makes of a state.
use Rattle.std.proofs.Common.{◌≡◌, inl, inr, ℕ, ℤ, ◌+◌, ◌-◌, ◌<◌, ◌≤◌, ◌^◌, true, nat_eq, nat_lt, List, [], ◌∷◌, ◌++◌, length, take, drop, get_or, sym, ◌∙◌, ap, subst, arith, length-drop}
use Rattle.std.specs.Prelude.{All}
use Rattle.std.proofs.lemmas.Bool.Decides.{nat_tests}
use Rattle.std.proofs.lemmas.List.{take-take, take_at, take_all, take_more}
use Rattle.tmem_gate.specs.Gate.{IsOpenAt, HasBody, IsOpenOver}
use Rattle.tmem_record.specs.Spelling.{number_bytes, batch_bytes, SpellsBatch}
use Rattle.tmem_effect.specs.State.{State, apply, fold}
use Rattle.tmem_effect.specs.declared.effect.Effect.{Effect}
use Rattle.tmem_state.specs.declared.version.Version.{Version}
use Rattle.tmem_effect.proofs.Laws.{fold-push, StaysWithin-first, StaysWithin-push, StaysWithin-at}
use Rattle.tmem_record.proofs.Laws.{length-number_bytes}
use Rattle.tmem_redolog.specs.Log.{IsClosedOrStale, IsWithin, StaysWithin}
use Rattle.tmem_redolog.specs.Scans.{MayReplay}
use Rattle.tmem_redolog.proofs.OneLog.{begins, one_number, spells, one_batch}

-- one effect after another
module _ (s : State) (es : List Effect) (k : ℕ) (e : Effect) (below : k < length es) (is : e ≡ get_or es k e) where
  pub fold_next : fold s (take (k + 1) es) ≡ apply (fold s (take k es)) e
  fold_next = ap (fold s) (take_more es k e below) ∙ fold-push s (take k es) (get_or es k e) ∙ ap (apply (fold s (take k es))) (sym is)

  pub within_next : StaysWithin s es → IsWithin (apply (fold s (take k es)) e)
  within_next within = subst IsWithin fold_next (StaysWithin-at s es (k + 1) within)

  -- and one more that stays within the limits
  pub stays_next : StaysWithin s (take k es) → IsWithin (apply (fold s (take k es)) e) → StaysWithin s (take (k + 1) es)
  stays_next before within =
      subst (StaysWithin s) (ap (λ (x : Effect). take k es ++ x ∷ []) is ∙ sym (take_more es k e below)) (StaysWithin-push s (take k es) e before within)

  pub of_variables : (n : ℕ) → All (λ (x : Effect). All (λ (w : ℕ × ℤ). w.0 < n) x.writes) es → All (λ (w : ℕ × ℤ). w.0 < n) e.writes
  of_variables n all = subst (λ (x : Effect). All (λ (w : ℕ × ℤ). w.0 < n) x.writes) (sym is) (all k e below)

-- the number that a slot has behind its gate
pub head_number : (slot head rest : List ℕ) (x : ℕ) → head ≡ take 18 (drop 1 slot) → head ≡ number_bytes 8 x ++ rest → HasBody 0 (number_bytes 8 x) slot
head_number slot head rest x read is =
    let n : 0 + 1 + length (number_bytes 8 x) - (0 + 1) ≡ 8 = omega (arith, length-number_bytes 8 x) in
    let le : 8 ≤ 18 = omega arith in
    ap (λ (k : ℕ). take k (drop 1 slot)) n ∙ sym (take-take 8 18 (drop 1 slot) le) ∙ ap (take 8) (sym read ∙ is) ∙ take_at (number_bytes 8 x) rest 8 (length-number_bytes 8 x)

module _ (slot : List ℕ) (x generation : ℕ) (fits_x : x < 2 ^ 64) (fits : generation < 2 ^ 64) (open_now : IsOpenAt 0 slot) (has : HasBody 0 (number_bytes 8 x) slot) where
  here : IsOpenOver 0 (number_bytes 8 x) slot
  here = record { gate = open_now; body = has }

  same_number : (y : ℕ) → y < 2 ^ 64 → IsOpenOver 0 (number_bytes 8 y) slot → x ≡ y
  same_number y fits_y other = one_number x y (drop 1 slot) fits_x fits_y (begins 0 (number_bytes 8 x) slot here) (begins 0 (number_bytes 8 y) slot other)

  equal : nat_eq x generation ≡ true → x ≡ generation
  equal is = grind (arith, nat_tests)

  equal_too : x ≡ generation → nat_eq x generation ≡ true
  equal_too is = grind (arith, nat_tests)

  less : nat_lt x generation ≡ true → x < generation
  less is = grind (arith, nat_tests)

  less_too : x < generation → nat_lt x generation ≡ true
  less_too is = grind (arith, nat_tests)

  pub is_of : nat_eq x generation ≡ true → IsOpenOver 0 (number_bytes 8 generation) slot
  is_of is = subst (λ (y : ℕ). IsOpenOver 0 (number_bytes 8 y) slot) (equal is) here

  pub of_it : IsOpenOver 0 (number_bytes 8 generation) slot → nat_eq x generation ≡ true
  of_it other = equal_too (same_number generation fits other)

  pub is_less : nat_lt x generation ≡ true → IsClosedOrStale generation 0 slot
  is_less is = inr (x, less is, here)

  pub less_it : IsClosedOrStale generation 0 slot → nat_lt x generation ≡ true
  less_it (inl shut) = absurd (shut.not_open open_now)
  less_it (inr it) = less_too (subst (λ (y : ℕ). y < generation) (sym (same_number it.0 (omega (arith, it.1, fits)) it.2)) it.1)

-- all that stands behind the gate of a slot
all_behind : (slot : List ℕ) → take (length slot - 1) (drop 1 slot) ≡ drop 1 slot
all_behind slot = take_all (length slot - 1) (drop 1 slot) (omega (arith, length-drop 1 slot))

pub from_all : (v : Version) (vars g f n : ℕ) (es : List Effect) (slot : List ℕ) → SpellsBatch v vars g f es (take n (take (length slot - 1) (drop 1 slot))) → SpellsBatch v vars g f es (take n (drop 1 slot))
from_all v vars g f n es slot = subst (λ (l : List ℕ). SpellsBatch v vars g f es (take n l)) (all_behind slot)

pub to_all : (v : Version) (vars g f n : ℕ) (es : List Effect) (slot : List ℕ) → SpellsBatch v vars g f es (take n (drop 1 slot)) → SpellsBatch v vars g f es (take n (take (length slot - 1) (drop 1 slot)))
to_all v vars g f n es slot = subst (λ (l : List ℕ). SpellsBatch v vars g f es (take n l)) (sym (all_behind slot))

-- a batch that a slot may replay is spelled behind its gate
pub spelled_in : (v : Version) (vars generation : ℕ) (s : State) (slot : List ℕ) (es : List Effect) → generation < 2 ^ 64 → MayReplay v vars generation s slot es → SpellsBatch v vars generation s.count es (take (length (batch_bytes v generation s.count es)) (drop 1 slot))
spelled_in v vars generation s slot es fits may =
    spells v vars generation s.count es (drop 1 slot) fits (StaysWithin-first s es may.within).count may.batch (begins 0 (batch_bytes v generation s.count es) slot may.cell)

-- the batch that was read is the one that the slot may replay
module _ (v : Version) (vars generation : ℕ) (few : vars ≤ 2 ^ 16) (fits : generation < 2 ^ 64) (s : State) (slot : List ℕ) (g f n : ℕ) (es : List Effect) (read : SpellsBatch v vars g f es (take n (drop 1 slot))) where
  pub same_batch : (fs : List Effect) → MayReplay v vars generation s slot fs → (g ≡ generation) × (f ≡ s.count) × (es ≡ fs)
  same_batch fs may = one_batch v vars g generation f s.count n (length (batch_bytes v generation s.count fs)) es fs (drop 1 slot) few read (spelled_in v vars generation s slot fs fits may)
