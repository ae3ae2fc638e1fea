-- What is left where nothing is unsynced, and by a sync that looks only at a range: it is enough that nothing outside the range is unsynced.
use Rattle.std.proofs.Common.{◌≡◌, ⊎_elim, ℕ, zero, suc, ◌+◌, ◌-◌, ◌<◌, ◌≤◌, Bool, true, false, List, length, drop, get_or, replicate, refl, sym, ◌∙◌, ap, arith, length-drop}
use Rattle.std.specs.Prelude.{slice_range}
use Rattle.std.proofs.lemmas.List.{length-take-le, get_or-take, get_or-drop, get_or-replicate, get_or_default, length-replicate, same_lists}
use Rattle.std.proofs.lemmas.Bool.{cases_lt}
use Rattle.tmem_disk.specs.Disk.{overwritten}
use Rattle.tmem_disk.specs.Sim.{LeftBy}
use Rattle.tmem_disk.proofs.Ranges.{length-overwritten, get_or-below, get_or-within, get_or-above}

-- of offsets that are synced each is
pub none_unsynced : (n i : ℕ) → get_or (replicate n false) i false ≡ false
none_unsynced zero i = refl
none_unsynced (suc n) zero = refl
none_unsynced (suc n) (suc i) = none_unsynced n i

-- where none is set, a crash leaves the bytes as at the last sync alone
pub left_once : (present synced c : List ℕ) (unsynced : List Bool) → synced ≡ present → unsynced ≡ replicate (length present) false → LeftBy synced unsynced c → c ≡ present
left_once present synced c unsynced is none left = same_lists c present long (λ i d below.
    let here : i < length present = omega (arith, long, below) in
    let is_synced : get_or unsynced i true ≡ false = ap (λ (l : List Bool). get_or l i true) none ∙ get_or-replicate (length present) i false true here in
    get_or_default c i d 0 below ∙ left.stays i is_synced ∙ ap (λ (l : List ℕ). get_or l i 0) is ∙ get_or_default present i 0 d here)
  where
    long : length c ≡ length present
    long = left.size ∙ ap (λ (l : List ℕ). length l) is

module _ (low high : ℕ) (unsynced : List Bool) (ordered : low ≤ high) (inside : high ≤ length unsynced) (before : (i : ℕ) → i < low → get_or unsynced i false ≡ false) (behind : (i : ℕ) → high ≤ i → get_or unsynced i false ≡ false) where
  -- the bytes outside the range are those as at the last sync
  pub synced_over : (synced present : List ℕ) → length unsynced ≡ length present → LeftBy synced unsynced present → overwritten synced low (slice_range present low high) ≡ present
  synced_over synced present long agrees = same_lists (overwritten synced low range) present (length-overwritten synced low range fits ∙ sym agrees.size) same
    where
      range : List ℕ
      range = slice_range present low high

      range_long : length range ≡ high - low
      range_long = length-take-le (high - low) (drop low present) (omega (arith, length-drop low present))

      fits : low + length range ≤ length synced
      fits = omega (arith, range_long, agrees.size)

      kept : (i d : ℕ) → i < length synced → get_or unsynced i false ≡ false → get_or synced i d ≡ get_or present i d
      kept i d below none =
          let is_synced : get_or unsynced i true ≡ false = get_or_default unsynced i true false (omega (arith, agrees.size)) ∙ none in
          get_or_default synced i d 0 below ∙ sym (agrees.stays i is_synced) ∙ get_or_default present i 0 d (omega (arith, agrees.size))

      same : (i d : ℕ) → i < length (overwritten synced low range) → get_or (overwritten synced low range) i d ≡ get_or present i d
      same i d below =
          let here : i < length synced = omega (arith, length-overwritten synced low range fits) in
          ⊎_elim
          (λ under. get_or-below synced low range fits i d under ∙ kept i d here (before i under))
          (λ from. ⊎_elim
          (λ to.
          let offset : low + (i - low) ≡ i = omega arith in
          get_or-within synced low range fits i d from (omega (arith, range_long)) ∙ get_or-take (high - low) (drop low present) (i - low) d (omega arith) ∙ get_or-drop low present (i - low) d ∙ ap (λ (k : ℕ). get_or present k d) offset)
          (λ over. get_or-above synced low range fits i d (omega (arith, range_long)) ∙ kept i d here (behind i over))
          (cases_lt i high))
          (cases_lt i low)

  -- and once those of the range are synced, none is unsynced
  pub cleared : (n : ℕ) → length unsynced ≡ n → overwritten unsynced low (replicate (high - low) false) ≡ replicate n false
  cleared n long = same_lists (overwritten unsynced low none) (replicate n false) (length-overwritten unsynced low none fits ∙ long ∙ sym (length-replicate n false)) same
    where
      none : List Bool
      none = replicate (high - low) false

      none_long : length none ≡ high - low
      none_long = length-replicate (high - low) false

      fits : low + length none ≤ length unsynced
      fits = omega (arith, none_long)

      same : (i : ℕ) (d : Bool) → i < length (overwritten unsynced low none) → get_or (overwritten unsynced low none) i d ≡ get_or (replicate n false) i d
      same i d below =
          let here : i < length unsynced = omega (arith, length-overwritten unsynced low none fits) in
          let is_synced : get_or (replicate n false) i d ≡ false = get_or-replicate n i false d (omega arith) in
          ⊎_elim
          (λ under. get_or-below unsynced low none fits i d under ∙ get_or_default unsynced i d false here ∙ before i under ∙ sym is_synced)
          (λ from. ⊎_elim
          (λ to. get_or-within unsynced low none fits i d from (omega (arith, none_long)) ∙ get_or-replicate (high - low) (i - low) false d (omega arith) ∙ sym is_synced)
          (λ over. get_or-above unsynced low none fits i d (omega (arith, none_long)) ∙ get_or_default unsynced i d false here ∙ behind i over ∙ sym is_synced)
          (cases_lt i high))
          (cases_lt i low)
