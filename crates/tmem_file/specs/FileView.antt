-- What a contract sees of a file.
use Rattle.std.specs.Prelude.{ℕ, Option, List, length}
use Rattle.tmem_disk.specs.Disk.{DeviceView, IsDevice}
use Rattle.tmem_disk.specs.declared.disk.DeviceFault.{DeviceFault}
use Rattle.tmem_file.specs.Record.{FileEvent, seen_after, LeftAfter, FileLeftSince, ReadsAgree}
use Rattle.tmem_file.specs.Recorded.{start_of, call_events}
use Rattle.tmem_file.specs.Held.{seen_long, left_long, seen_stays, left_now, only_now}
use Rattle.tmem_file.specs.declared.disk.FileDisk.{FileDisk}

-- a file as a device, by its count of faults, the last one, and the record of its calls
abbrev pub recorded_view : ℕ → Option DeviceFault → List ℕ → List FileEvent → DeviceView
recorded_view failures last_fault start events = record {
  capacity = length start;
  failures = failures;
  last_fault = last_fault;
  keeps_model = ReadsAgree start events;
  seen = seen_after start events;
  may_leave = LeftAfter start events;
  moment = length events;
  left_since = FileLeftSince start events;
}

-- what every device shows
abbrev pub file_view : FileDisk → DeviceView
file_view disk = recorded_view disk.failures disk.last_fault (start_of disk.file.calls) (call_events disk.file.calls)

-- it is a device
pub file_is_device : (disk : FileDisk) → IsDevice (file_view disk)
file_is_device disk =
    let start = start_of disk.file.calls in
    let events = call_events disk.file.calls in
    record {
      capacity_fits = disk.file.fits;
      failures_fit = disk.counted;
      seen_is_whole = λ k. seen_long start events disk.within;
      left_is_whole = λ c k left. left_long start events disk.within c left;
      seen_may_stay = λ k. seen_stays start events disk.within;
      counts_now = λ t c k le left. left_now start events t c left;
      only_now = λ c k left. only_now start events c left;
    }
