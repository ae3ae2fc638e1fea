-- One call more of a file, as every device shows it.
use Rattle.std.proofs.Common.{◌≡◌, ⊎_elim, ℕ, ◌+◌, ◌≤◌, Bool, true, false, not, List, [], ◌∷◌, length, sym, subst}
use Rattle.std.proofs.lemmas.Bool.{false≢true}
use Rattle.tmem_disk.specs.Disk.{SameOutside}
use Rattle.tmem_disk.proofs.Laws.{SameOutside-overwritten, SameOutside-refl}
use Rattle.tmem_file.specs.Record.{FileEvent, gave, holds, tore, synced, lost, seen_after, has_lost, is_synced, by_case, LeftAfter, reach}
use Rattle.tmem_file.specs.Recorded.{Spoils}
use Rattle.tmem_file.specs.Held.{seen_long, seen_stays, from_case}

-- a write changes nothing outside its range
outside : (start : List ℕ) (before : List FileEvent) (at : ℕ) (bytes : List ℕ) → reach before ≤ length start → at + length bytes ≤ length start
    → SameOutside at (length bytes) (seen_after start before) (seen_after start (holds at bytes ∷ before))
outside start before at bytes within fits = SameOutside-overwritten (seen_after start before) at bytes (subst (λ (n : ℕ). at + length bytes ≤ n) (sym (seen_long start before within)) fits)

module _ (start start' : List ℕ) (before after : List FileEvent) (same : start' ≡ start) (within : reach before ≤ length start) where
  pub written_outside : (at : ℕ) (bytes : List ℕ) → at + length bytes ≤ length start → after ≡ holds at bytes ∷ before → SameOutside at (length bytes) (seen_after start before) (seen_after start' after)
  written_outside at bytes fits is = subst (λ (s : List ℕ). SameOutside at (length bytes) (seen_after start before) (seen_after s after)) (sym same)
      (subst (λ (es : List FileEvent). SameOutside at (length bytes) (seen_after start before) (seen_after start es)) (sym is) (outside start before at bytes within fits))

  -- nor does one that failed
  pub spoilt_outside : (at n : ℕ) → at + n ≤ length start → Spoils at n before after → SameOutside at n (seen_after start before) (seen_after start' after)
  spoilt_outside at n fits spoils = subst (λ (s : List ℕ). SameOutside at n (seen_after start before) (seen_after s after)) (sym same) (⊎_elim
      (λ some. subst (λ (es : List FileEvent). SameOutside at n (seen_after start before) (seen_after start es)) (sym some.2)
      (subst (λ (m : ℕ). SameOutside at m (seen_after start before) (seen_after start (holds at some.0 ∷ before))) some.1
      (outside start before at some.0 within (subst (λ (m : ℕ). at + m ≤ length start) (sym some.1) fits))))
      (λ none. subst (λ (es : List FileEvent). SameOutside at n (seen_after start before) (seen_after start es)) (sym none) (SameOutside-refl at n (seen_after start before)))
      spoils)

  -- after a sync a crash leaves nothing that it might not have left before
  pub synced_leaves : after ≡ synced ∷ before → (c : List ℕ) → LeftAfter start' after c → LeftAfter start before c
  synced_leaves is c left = from_case (has_lost before) (λ was. was)
      (λ seen. subst (λ (b : List ℕ). LeftAfter start before b) (sym seen) (seen_stays start before within))
      (subst (λ (es : List FileEvent). LeftAfter start es c) is (subst (λ (s : List ℕ). LeftAfter s after c) same left))

-- the second of two facts, where the first is ruled out
second : (P Q : Type 0) (b : Bool) → not b ≡ true → by_case b P Q → Q
second P Q true is case = absurd (false≢true is)
second P Q false is case = case

-- where nothing was written since a sync that succeeded, a crash leaves what a read gives
pub nothing_to_sync : (start : List ℕ) (events : List FileEvent) → is_synced events ≡ true → (c : List ℕ) → LeftAfter start events c → c ≡ seen_after start events
nothing_to_sync start [] is c left = absurd (false≢true is)
nothing_to_sync start (gave at bytes ∷ earlier) is c left = nothing_to_sync start earlier is c left
nothing_to_sync start (holds at bytes ∷ earlier) is c left = absurd (false≢true is)
nothing_to_sync start (tore at n ∷ earlier) is c left = absurd (false≢true is)
nothing_to_sync start (synced ∷ earlier) is c left = second _ _ (has_lost earlier) is left
nothing_to_sync start (lost ∷ earlier) is c left = absurd (false≢true is)
