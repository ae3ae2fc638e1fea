-- What a run knows of a file: the bytes that it gave when it was opened, and what its calls did since. What it holds, what
-- a crash may leave of it, and whether its answers agree, are read off that.
use Rattle.std.specs.Prelude.{◌≡◌, ◌⊎◌, ⊤, ℕ, ◌+◌, ◌≤◌, max, Bool, true, false, not, ◌||◌, List, [], ◌∷◌, length, slice_range}
use Rattle.tmem_disk.specs.Disk.{overwritten, SameOutside}

-- What came of a call.
pub data FileEvent : Type 0 where
  -- a read gave these bytes from an offset on
  gave : ℕ → List ℕ → FileEvent
  -- these bytes stand from an offset on, after a write
  holds : ℕ → List ℕ → FileEvent
  -- a write of so many bytes from an offset on failed, and what stands there could not be read
  tore : ℕ → ℕ → FileEvent
  -- a sync succeeded
  synced : FileEvent
  -- a sync failed
  lost : FileEvent

-- The events stand with the newest first.

-- the bytes that a read gives
abbrev pub seen_after : List ℕ → List FileEvent → List ℕ
seen_after start [] = start
seen_after start (gave at bytes ∷ earlier) = seen_after start earlier
seen_after start (holds at bytes ∷ earlier) = overwritten (seen_after start earlier) at bytes
seen_after start (tore at n ∷ earlier) = seen_after start earlier
seen_after start (synced ∷ earlier) = seen_after start earlier
seen_after start (lost ∷ earlier) = seen_after start earlier

-- what it holds is not known for sure after it
abbrev pub is_loss : FileEvent → Bool
is_loss (gave at bytes) = false
is_loss (holds at bytes) = false
is_loss (tore at n) = true
is_loss synced = false
is_loss lost = true

-- and so it is after one such event
abbrev pub has_lost : List FileEvent → Bool
has_lost [] = false
has_lost (event ∷ earlier) = is_loss event || has_lost earlier

-- a sync succeeded, nothing was written since, and it is known for sure what the file holds
abbrev pub is_synced : List FileEvent → Bool
is_synced [] = false
is_synced (gave at bytes ∷ earlier) = is_synced earlier
is_synced (holds at bytes ∷ earlier) = false
is_synced (tore at n ∷ earlier) = false
is_synced (synced ∷ earlier) = not (has_lost earlier)
is_synced (lost ∷ earlier) = false

-- one fact or another
abbrev pub by_case : Bool → Type 0 → Type 0 → Type 0
by_case true P Q = P
by_case false P Q = Q

-- What a crash may leave: at first anything as long as the file, after a sync what a read gives, and then anything in the
-- ranges written since. Once it is not known for sure what the file holds, a sync promises nothing.
abbrev pub LeftAfter : List ℕ → List FileEvent → List ℕ → Type 0
LeftAfter start [] c = length c ≡ length start
LeftAfter start (gave at bytes ∷ earlier) c = LeftAfter start earlier c
LeftAfter start (holds at bytes ∷ earlier) c = (b : List ℕ) × LeftAfter start earlier b × SameOutside at (length bytes) b c
LeftAfter start (tore at n ∷ earlier) c = (b : List ℕ) × LeftAfter start earlier b × SameOutside at n b c
LeftAfter start (synced ∷ earlier) c = by_case (has_lost earlier) (LeftAfter start earlier c) (c ≡ seen_after start earlier)
LeftAfter start (lost ∷ earlier) c = LeftAfter start earlier c

-- what a crash now may leave, or might have left after t events or more
abbrev pub FileLeftSince : List ℕ → List FileEvent → ℕ → List ℕ → Type 0
FileLeftSince start [] t c = LeftAfter start [] c
FileLeftSince start (event ∷ earlier) t c = LeftAfter start (event ∷ earlier) c ⊎ ((t ≤ length earlier) × FileLeftSince start earlier t c)

-- each read gave the bytes that the file held by then
abbrev pub ReadsAgree : List ℕ → List FileEvent → Type 0
ReadsAgree start [] = ⊤
ReadsAgree start (gave at bytes ∷ earlier) = ReadsAgree start earlier × (bytes ≡ slice_range (seen_after start earlier) at (at + length bytes))
ReadsAgree start (holds at bytes ∷ earlier) = ReadsAgree start earlier
ReadsAgree start (tore at n ∷ earlier) = ReadsAgree start earlier
ReadsAgree start (synced ∷ earlier) = ReadsAgree start earlier
ReadsAgree start (lost ∷ earlier) = ReadsAgree start earlier

-- where the range of a call ends
abbrev pub end_of : FileEvent → ℕ
end_of (gave at bytes) = at + length bytes
end_of (holds at bytes) = at + length bytes
end_of (tore at n) = at + n
end_of synced = 0
end_of lost = 0

-- the farthest end of a range
abbrev pub reach : List FileEvent → ℕ
reach [] = 0
reach (event ∷ earlier) = max (end_of event) (reach earlier)
