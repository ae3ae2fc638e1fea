-- What the clauses of a device in memory see of it, beside what they see of every device.
use Rattle.std.specs.Prelude.{ℕ, if◌then◌else◌, List, length}
use Rattle.std.proofs.Common.{inl, refl, sym, ◌∙◌}
use Rattle.tmem_disk.specs.Sim.{Bytes, bytes_written, range_unsynced, synced_with, memory_view, left_now}
use Rattle.tmem_disk.specs.Power.{only_fails, syncs_nothing, unless_crashed}
use Rattle.tmem_disk.specs.Disk.{DeviceView, IsDevice}
use Rattle.tmem_disk.specs.Moments.{moments_of}
use Rattle.tmem_disk.specs.declared.power.Power.{Power}
use Rattle.tmem_disk.specs.declared.sim.SimDisk.{SimDisk}

-- whether it runs, and what is armed
abbrev pub power_of : SimDisk → Power
power_of disk = disk.power

-- its bytes
abbrev pub sim_bytes : SimDisk → Bytes
sim_bytes disk = record { present = disk.present.items; synced = disk.platter.synced.items; unsynced = disk.platter.unsynced.items }

-- what every device shows
abbrev pub sim_view : SimDisk → DeviceView
sim_view disk = memory_view disk.failures.count disk.failures.last disk.present.items (moments_of disk.past) disk.platter.synced.items disk.platter.unsynced.items

-- it is a device
pub sim_is_device : (disk : SimDisk) → IsDevice (sim_view disk)
sim_is_device disk = record {
  capacity_fits = disk.fits;
  failures_fit = disk.counted;
  seen_is_whole = λ k. refl;
  left_is_whole = λ c k left. left.size ∙ sym disk.agrees.size;
  seen_may_stay = λ k. disk.agrees;
  counts_now = λ t c k le now. inl now;
  only_now = λ c k left. left_now (moments_of disk.past) disk.platter.synced.items disk.platter.unsynced.items c left;
}

-- What a write leaves. Nothing changes where the device had crashed before, and was not restarted. A write
-- that fails with no crash changes no byte that a read gives, and its range counts as written.
abbrev pub bytes_after_write : Power → ℕ → List ℕ → Bytes → Bytes
bytes_after_write power at bytes b = unless_crashed power.crashed b (if only_fails at power then range_unsynced at (length bytes) b else bytes_written at bytes b)

-- what a sync leaves: nothing changes where the device has crashed, before it or at it, or the sync is armed to fail
abbrev pub bytes_after_sync : Power → Bytes → Bytes
bytes_after_sync power b = unless_crashed power.crashed b (if syncs_nothing power then b else synced_with b.present)
