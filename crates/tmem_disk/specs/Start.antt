-- A device as it is made.
use Rattle.std.specs.Prelude.{◌≡◌, ℕ, None, replicate}
use Rattle.tmem_disk.specs.Disk.{DeviceView, IsSynced}

-- zeros, with nothing left to sync and no call that failed
pub record IsNewDevice (size : ℕ) (d : DeviceView) : Type 0 where
  pub capacity : d.capacity ≡ size
  pub failures : d.failures ≡ 0
  pub last_fault : d.last_fault ≡ None
  pub model : d.keeps_model
  pub zeros : d.seen ≡ replicate size 0
  pub synced : IsSynced d
