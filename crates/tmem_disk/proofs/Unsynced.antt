-- Which offsets of a device in memory are unsynced after a write.
use Rattle.std.proofs.Common.{◌≡◌, ⊎_elim, ℕ, ◌+◌, ◌-◌, ◌<◌, ◌≤◌, Bool, true, false, List, length, take, drop, get_or, replicate, sym, ◌∙◌, ap, subst, arith, length-drop}
use Rattle.std.proofs.lemmas.List.{length-take-le, get_or-take, get_or-drop, get_or-replicate, length-replicate}
use Rattle.std.proofs.lemmas.Bool.{cases_lt, false≢true}
use Rattle.tmem_disk.specs.Disk.{overwritten, SameOutside}
use Rattle.tmem_disk.specs.Sim.{LeftBy, Bytes}
use Rattle.tmem_disk.proofs.Ranges.{length-overwritten, get_or-below, get_or-within, get_or-above, take-overwritten, drop-overwritten}

-- what may be left after a write might have been left before it, with anything in the range
pub left_after : (synced : List ℕ) (unsynced : List Bool) (at n : ℕ) → length unsynced ≡ length synced → at + n ≤ length synced → (c : List ℕ) → LeftBy synced (overwritten unsynced at (replicate n true)) c → (b : List ℕ) × LeftBy synced unsynced b × SameOutside at n b c
left_after synced unsynced at n same fits c left = (before, earlier, step)
  where
    put_back : List ℕ
    put_back = take n (drop at synced)

    long : length put_back ≡ n
    long = length-take-le n (drop at synced) (omega (arith, length-drop at synced))

    before : List ℕ
    before = overwritten c at put_back

    room : at + length put_back ≤ length c
    room = omega (arith, long, left.size)

    trues : List Bool
    trues = replicate n true

    long_unsynced : length trues ≡ n
    long_unsynced = length-replicate n true

    within : at + length trues ≤ length unsynced
    within = omega (arith, long_unsynced)

    earlier : LeftBy synced unsynced before
    earlier = record {
      size = length-overwritten c at put_back room ∙ left.size;
      stays = λ i is_synced. ⊎_elim
          (λ below. get_or-below c at put_back room i 0 below ∙ left.stays i (get_or-below unsynced at trues within i true below ∙ is_synced))
          (λ from. ⊎_elim
          (λ to.
          let offset : at + (i - at) ≡ i = omega arith in
          get_or-within c at put_back room i 0 from (omega (arith, long)) ∙ get_or-take n (drop at synced) (i - at) 0 (omega arith) ∙ get_or-drop at synced (i - at) 0 ∙ ap (λ (k : ℕ). get_or synced k 0) offset)
          (λ above. get_or-above c at put_back room i 0 (omega (arith, long)) ∙ left.stays i (get_or-above unsynced at trues within i true (omega (arith, long_unsynced)) ∙ is_synced))
          (cases_lt i (at + n)))
          (cases_lt i at);
    }

    step : SameOutside at n before c
    step = subst (λ (k : ℕ). SameOutside at k before c) long (record {
      size = sym (length-overwritten c at put_back room);
      before = sym (take-overwritten c at put_back room);
      after = sym (drop-overwritten c at put_back room);
    })

-- and all of that may be left
pub left_all : (synced : List ℕ) (unsynced : List Bool) (at n : ℕ) → length unsynced ≡ length synced → at + n ≤ length synced → (c : List ℕ) → ((b : List ℕ) × LeftBy synced unsynced b × SameOutside at n b c) → LeftBy synced (overwritten unsynced at (replicate n true)) c
left_all synced unsynced at n same fits c from = record {
  size = from.2.size ∙ from.1.size;
  stays = λ i is_synced. ⊎_elim
      (λ below. sym (get_or-take at c i 0 below) ∙ ap (λ (l : List ℕ). get_or l i 0) from.2.before ∙ get_or-take at from.0 i 0 below ∙ from.1.stays i (sym (get_or-below unsynced at trues within i true below) ∙ is_synced))
      (λ above_at. ⊎_elim
      (λ to. absurd (false≢true (sym is_synced ∙ get_or-within unsynced at trues within i true above_at (omega (arith, long)) ∙ get_or-replicate n (i - at) true true (omega arith))))
      (λ above.
      let offset : at + n + (i - (at + n)) ≡ i = omega arith in
      ap (λ (k : ℕ). get_or c k 0) (sym offset) ∙ sym (get_or-drop (at + n) c (i - (at + n)) 0) ∙ ap (λ (l : List ℕ). get_or l (i - (at + n)) 0) from.2.after
      ∙ get_or-drop (at + n) from.0 (i - (at + n)) 0 ∙ ap (λ (k : ℕ). get_or from.0 k 0) offset ∙ from.1.stays i (sym (get_or-above unsynced at trues within i true (omega (arith, long))) ∙ is_synced))
      (cases_lt i (at + n)))
      (cases_lt i at);
}
  where
    trues : List Bool
    trues = replicate n true

    long : length trues ≡ n
    long = length-replicate n true

    within : at + length trues ≤ length unsynced
    within = omega (arith, long)

-- The offsets once a range is unsynced: as many as before, and none unsynced outside the range where none was.
module _ (unsynced new : List Bool) (at n : ℕ) (fits : at + n ≤ length unsynced) (is : new ≡ overwritten unsynced at (replicate n true)) where
  trues_long : length (replicate n true) ≡ n
  trues_long = length-replicate n true

  inside : at + length (replicate n true) ≤ length unsynced
  inside = omega (arith, trues_long, fits)

  pub unsynced_long : length new ≡ length unsynced
  unsynced_long = ap (λ (l : List Bool). length l) is ∙ length-overwritten unsynced at (replicate n true) inside

  pub synced_below : (i : ℕ) → i < at → get_or unsynced i false ≡ false → get_or new i false ≡ false
  synced_below i below none = ap (λ (l : List Bool). get_or l i false) is ∙ get_or-below unsynced at (replicate n true) inside i false below ∙ none

  pub synced_above : (i : ℕ) → at + n ≤ i → get_or unsynced i false ≡ false → get_or new i false ≡ false
  synced_above i above none = ap (λ (l : List Bool). get_or l i false) is ∙ get_or-above unsynced at (replicate n true) inside i false (omega (arith, trues_long, above)) ∙ none

-- bytes from their three parts
abbrev bytes_of : List ℕ → List ℕ → List Bool → Bytes
bytes_of present synced unsynced = record { present = present; synced = synced; unsynced = unsynced }

-- bytes are the same where their parts are
pub same_bytes : (present synced synced' : List ℕ) (unsynced unsynced' : List Bool) → synced ≡ synced' → unsynced ≡ unsynced' → bytes_of present synced unsynced ≡ bytes_of present synced' unsynced'
same_bytes present synced synced' unsynced unsynced' first second =
    ap (λ (l : List ℕ). bytes_of present l unsynced) first ∙ ap (λ (l : List Bool). bytes_of present synced' l) second
