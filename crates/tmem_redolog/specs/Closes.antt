-- What closing the stale gates behind a log leaves.
use Rattle.std.specs.Prelude.{◌≡◌, ◌≢◌, ◌<◌, ◌≤◌, ◌-◌, ◌*◌, ℕ, List, length, slice_get}
use Rattle.tmem_disk.specs.Disk.{DeviceView, SameOutside, AtEachMoment, Elapses, LeavesOnly, IsSynced}
use Rattle.tmem_gate.specs.Calls.{WritesWithin, MadeBy}
use Rattle.tmem_gate.specs.Gate.{IsOpenAt, IsClosed}
use Rattle.tmem_record.specs.Layout.{slot_at}
use Rattle.tmem_effect.specs.State.{State}
use Rattle.tmem_effect.specs.declared.effect.Effect.{Effect}
use Rattle.tmem_state.specs.declared.version.Version.{Version}
use Rattle.tmem_redolog.specs.Log.{HoldsLog}
use Rattle.tmem_redolog.specs.declared.log.Log.{Log}

-- how many bytes the slots from one on have
abbrev pub bytes_from : ℕ → ℕ → ℕ
bytes_from slot slots = 4096 * (slots - slot)

-- at this offset there is no gate that is open in a slot from one on
abbrev pub IsNoOpenGate : ℕ → ℕ → ℕ → List ℕ → ℕ → Type 0
IsNoOpenGate vars slots used c i = (k : ℕ) → used ≤ k → k < slots → IsOpenAt (slot_at vars k) c → i ≢ slot_at vars k

-- the second content holds each log of the first that ends before a slot, whatever its version, has each slot from there on
-- closed that the first has closed, and is the same in front of those slots and behind them, and in them but for their open
-- gates
pub record Keeps (vars slots generation used : ℕ) (b c : List ℕ) : Type 0 where
  pub elsewhere : SameOutside (slot_at vars used) (bytes_from used slots) b c
  pub closed : (k : ℕ) → used ≤ k → k < slots → IsClosed (slot_at vars k) b → IsClosed (slot_at vars k) c
  pub others : (i : ℕ) → IsNoOpenGate vars slots used b i → slice_get c i ≡ slice_get b i
  pub log : (v : Version) (image : State) (batches : List (List Effect)) → length batches ≡ used → HoldsLog v vars slots generation image batches b → HoldsLog v vars slots generation image batches c

-- the gates of the slots from one to another read closed
abbrev pub ReadClosed : ℕ → ℕ → ℕ → DeviceView → Type 0
ReadClosed vars from to d = (k : ℕ) → from ≤ k → k < to → IsClosed (slot_at vars k) d.seen

-- What closing gates behind a log does to a device, whatever it answers. A read gives what it gave before but for open gates,
-- and nothing outside those slots is written. On a device that was synced before, a crash at any moment of the call, or after
-- it, leaves what it might have left before, but for such gates.
pub record Closes (vars slots generation used : ℕ) (old new : DeviceView) : Type 0 where
  pub seen : new.keeps_model → Keeps vars slots generation used old.seen new.seen
  pub elsewhere : WritesWithin (slot_at vars used) (bytes_from used slots) old new
  pub any_moment : IsSynced old → AtEachMoment old new (MadeBy (Keeps vars slots generation used) old)
  pub time : IsSynced old → Elapses old new (MadeBy (Keeps vars slots generation used) old)
  pub crash : IsSynced old → LeavesOnly new (MadeBy (Keeps vars slots generation used) old)

-- the log of a generation that has no batch yet
abbrev pub empty_log : ℕ → Log
empty_log generation = record { generation = generation; used = 0 }
