-- Whether a device in memory runs, and at which of its calls it crashes or fails.
use Rattle.std.specs.Prelude.{◌⊎◌, ℕ, zero, suc, Bool, ◌&&◌, ◌||◌, ◌==◌, Option, Some, None, is_none, is_some, IsTrue, IsSome, if◌then◌else◌}
use Rattle.tmem_disk.specs.Failing.{none_armed, armed_for, armed_with, is_next, armed_after}
use Rattle.tmem_disk.specs.declared.disk.DeviceFault.{DeviceFault}
use Rattle.tmem_disk.specs.declared.disk.DeviceFault.TheVariants.{Read, Write, Sync}
use Rattle.tmem_disk.specs.declared.power.Fill.{Fill}
use Rattle.tmem_disk.specs.declared.power.ArmedCrash.{ArmedCrash}
use Rattle.tmem_disk.specs.declared.power.ArmedCrash.TheVariants.{AtWrite, AtPlace, AtSync}
use Rattle.tmem_disk.specs.declared.power.Power.{Power}

-- it has crashed
abbrev pub IsCrashed : Power → Type 0
IsCrashed power = IsSome power.crashed

-- the fill of the crash from which it was not restarted yet
abbrev pub fill_of : Power → Option Fill
fill_of power = power.crashed

-- it runs, and nothing is armed
abbrev pub running : Power
running = record { crashed = None; armed = None; failing = none_armed }

-- with this crash to come, in the place of any other that was to come
abbrev pub arming : ArmedCrash → Power → Power
arming plan power = record { crashed = power.crashed; armed = Some plan; failing = power.failing }

-- with a failure to come at the call of this kind behind so many more of it, in the place of any other of that kind
abbrev pub arming_failure : DeviceFault → ℕ → Power → Power
arming_failure kind before power = record { crashed = power.crashed; armed = power.armed; failing = armed_with kind (Some before) power.failing }

-- crashed with this fill, and what was armed still to come
abbrev pub crashed_with : Fill → Power → Power
crashed_with fill power = record { crashed = Some fill; armed = power.armed; failing = power.failing }

-- it runs again, with what was armed still to come
abbrev pub restarted : Power → Power
restarted power = record { crashed = None; armed = power.armed; failing = power.failing }

-- A call of a device: a read, a write from an offset on, or a sync.
pub data Call : Type 0 where
  reading : Call
  writing : ℕ → Call
  syncing : Call

-- the kind of a call, by the fault that it answers where it fails
abbrev pub kind_of : Call → DeviceFault
kind_of reading = Read
kind_of (writing at) = Write
kind_of syncing = Sync

-- the fill of the crash that a write from this offset on meets
abbrev pub met_by_write : ℕ → Option ArmedCrash → Option Fill
met_by_write at None = None
met_by_write at (Some (AtWrite zero fill)) = Some fill
met_by_write at (Some (AtWrite (suc more) fill)) = None
met_by_write at (Some (AtPlace place fill)) = if at == place then Some fill else None
met_by_write at (Some (AtSync more fill)) = None

-- the crash that is still to come after a write from this offset on
abbrev pub left_by_write : ℕ → Option ArmedCrash → Option ArmedCrash
left_by_write at None = None
left_by_write at (Some (AtWrite zero fill)) = None
left_by_write at (Some (AtWrite (suc more) fill)) = Some (AtWrite more fill)
left_by_write at (Some (AtPlace place fill)) = if at == place then None else Some (AtPlace place fill)
left_by_write at (Some (AtSync more fill)) = Some (AtSync more fill)

-- the fill of the crash that a sync meets
abbrev pub met_by_sync : Option ArmedCrash → Option Fill
met_by_sync None = None
met_by_sync (Some (AtWrite more fill)) = None
met_by_sync (Some (AtPlace place fill)) = None
met_by_sync (Some (AtSync zero fill)) = Some fill
met_by_sync (Some (AtSync (suc more) fill)) = None

-- the crash that is still to come after a sync
abbrev pub left_by_sync : Option ArmedCrash → Option ArmedCrash
left_by_sync None = None
left_by_sync (Some (AtWrite more fill)) = Some (AtWrite more fill)
left_by_sync (Some (AtPlace place fill)) = Some (AtPlace place fill)
left_by_sync (Some (AtSync zero fill)) = None
left_by_sync (Some (AtSync (suc more) fill)) = Some (AtSync more fill)

-- What runs counts each call, also one that fails, and may meet a crash at a write or at a sync.
abbrev pub after_running : Call → Power → Power
after_running reading power = record { crashed = None; armed = power.armed; failing = armed_after Read power.failing }
after_running (writing at) power = record { crashed = met_by_write at power.armed; armed = left_by_write at power.armed; failing = armed_after Write power.failing }
after_running syncing power = record { crashed = met_by_sync power.armed; armed = left_by_sync power.armed; failing = armed_after Sync power.failing }

-- a call at a crashed device changes nothing
abbrev pub unless_crashed : {A : Type 0} → Option Fill → A → A → A
unless_crashed (Some fill) before power_after = before
unless_crashed None before power_after = power_after

-- after a call
abbrev pub power_after : Call → Power → Power
power_after call power = unless_crashed power.crashed power (after_running call power)

-- a write from this offset on of a device that runs is armed to fail and meets no crash, which would win
abbrev pub only_fails : ℕ → Power → Bool
only_fails at power = is_next power.failing.write && is_none (met_by_write at power.armed)

-- a sync of a device that runs is armed to fail, or meets a crash
abbrev pub syncs_nothing : Power → Bool
syncs_nothing power = is_next power.failing.sync || is_some (met_by_sync power.armed)

-- it is the call of its kind that is armed to fail
abbrev pub IsArmed : Call → Power → Type 0
IsArmed call power = IsTrue (is_next (armed_for (kind_of call) power.failing))

-- a call fails where the device has crashed after it, or where it is armed to fail
abbrev pub Fails : Call → Power → Type 0
Fails call power = IsCrashed (power_after call power) ⊎ IsArmed call power
