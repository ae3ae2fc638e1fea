-- The bytes of a device in memory, and what a crash leaves of them.
use Rattle.std.specs.Prelude.{◌≡◌, ◌⊎◌, ⊤, ℕ, Bool, true, false, Option, if◌then◌else◌, List, [], ◌∷◌, length, drop, replicate, slice_index, slice_index_or}
use mathlib.Core.Logic.{inl, inr}
use Rattle.tmem_disk.specs.Disk.{DeviceView, overwritten}
use Rattle.tmem_disk.specs.declared.disk.DeviceFault.{DeviceFault}
use Rattle.tmem_disk.specs.declared.power.Fill.{Fill}
use Rattle.tmem_disk.specs.declared.power.Fill.TheVariants.{Old, New, Byte}

-- The bytes that a read gives, those as at the last successful sync, and whether each byte is unsynced: written since.
pub record Bytes : Type 0 where
  pub present : List ℕ
  pub synced : List ℕ
  pub unsynced : List Bool

-- so many zeros, none of them unsynced
abbrev pub blank : ℕ → Bytes
blank size = record { present = replicate size 0; synced = replicate size 0; unsynced = replicate size false }

-- with these bytes from an offset on, and their offsets unsynced
abbrev pub bytes_written : ℕ → List ℕ → Bytes → Bytes
bytes_written at bytes b = record { present = overwritten b.present at bytes; synced = b.synced; unsynced = overwritten b.unsynced at (replicate (length bytes) true) }

-- with a range of n offsets unsynced, and its bytes as they were
abbrev pub range_unsynced : ℕ → ℕ → Bytes → Bytes
range_unsynced at n b = record { present = b.present; synced = b.synced; unsynced = overwritten b.unsynced at (replicate n true) }

-- with these as the bytes that a read gives and as the synced ones, none of them unsynced
abbrev pub synced_with : List ℕ → Bytes
synced_with bytes = record { present = bytes; synced = bytes; unsynced = replicate (length bytes) false }

-- these bytes, with one byte in each unsynced offset
abbrev pub stamped : ℕ → List ℕ → List Bool → List ℕ
stamped byte [] unsynced = []
stamped byte (b ∷ bytes) [] = b ∷ bytes
stamped byte (b ∷ bytes) (is_unsynced ∷ unsynced) = (if is_unsynced then byte else b) ∷ stamped byte bytes unsynced

-- what a crash with this fill leaves
abbrev pub filled : Fill → Bytes → List ℕ
filled Old b = b.synced
filled New b = b.present
filled (Byte byte) b = stamped byte b.present b.unsynced

-- a crash leaves the bytes as at the last sync, and anything in the unsynced offsets
pub record LeftBy (synced : List ℕ) (unsynced : List Bool) (c : List ℕ) : Type 0 where
  pub size : length c ≡ length synced
  pub stays : (i : ℕ) → slice_index_or unsynced i true ≡ false → slice_index c i ≡ slice_index synced i

-- a crash at one of these moments might have left it
abbrev pub LeftAtSome : List (List ℕ × List Bool) → List ℕ → Type 0
LeftAtSome [] c = ⊥
LeftAtSome (m ∷ moments) c = LeftBy m.0 m.1 c ⊎ LeftAtSome moments c

-- a crash now or at a moment from number t on
abbrev pub LeftSince : List (List ℕ × List Bool) → List ℕ → List Bool → ℕ → List ℕ → Type 0
LeftSince moments synced unsynced t c = LeftBy synced unsynced c ⊎ LeftAtSome (drop t moments) c

none_left : (moments : List (List ℕ × List Bool)) (c : List ℕ) → LeftAtSome (drop (length moments) moments) c → ⊥
none_left [] c left = left
none_left (m ∷ moments) c left = none_left moments c left

-- from the number of the past moments on there is only this one
pub left_now : (moments : List (List ℕ × List Bool)) (synced : List ℕ) (unsynced : List Bool) (c : List ℕ) → LeftSince moments synced unsynced (length moments) c → LeftBy synced unsynced c
left_now moments synced unsynced c (inl now) = now
left_now moments synced unsynced c (inr before) = absurd (none_left moments c before)

-- a device in memory, by its count of faults, the last one, its bytes and its moments
abbrev pub memory_view : ℕ → Option DeviceFault → List ℕ → List (List ℕ × List Bool) → List ℕ → List Bool → DeviceView
memory_view failures last_fault present moments synced unsynced = record {
  capacity = length present;
  failures = failures;
  last_fault = last_fault;
  keeps_model = ⊤;
  seen = present;
  may_leave = LeftBy synced unsynced;
  moment = length moments;
  left_since = LeftSince moments synced unsynced;
}
