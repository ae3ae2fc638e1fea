-- Files as they are opened and named.
use Rattle.std.specs.Prelude.{◌≡◌, None}
use Rattle.tmem_disk.specs.Disk.{DeviceView, IsSynced, ReadsAs, LeavesOnly, Elapses}

-- nothing is left to sync, no call has failed, and nothing that the file gave disagrees
pub record IsFreshlyOpened (d : DeviceView) : Type 0 where
  pub failures : d.failures ≡ 0
  pub last_fault : d.last_fault ≡ None
  pub model : d.keeps_model
  pub synced : IsSynced d

-- the same bytes, synced, and no call more that failed
pub record HasItsName (old new : DeviceView) : Type 0 where
  pub capacity : new.capacity ≡ old.capacity
  pub failures : new.failures ≡ old.failures
  pub last_fault : new.last_fault ≡ old.last_fault
  pub model : new.keeps_model → old.keeps_model
  pub seen : ReadsAs new old.seen
  pub synced : IsSynced new
  pub crash : LeavesOnly new old.may_leave
  pub time : Elapses old new new.may_leave
