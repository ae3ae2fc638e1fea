-- What a call over a device keeps, and what it leaves alone.
use Rattle.std.specs.Prelude.{◌≡◌, ◌⊎◌, ℕ, List, Result, MatchResult}
use Rattle.tmem_disk.specs.Disk.{DeviceView, ReadsAs, SameSeenOutside, LeavesOnly, AtEachMoment, Elapses, Rewritten, after_fault}
use Rattle.tmem_disk.specs.declared.disk.DeviceFault.{DeviceFault}
use Rattle.tmem_disk.specs.declared.disk.DeviceFault.TheVariants.{Read, Write}
use Rattle.tmem_fault.specs.declared.fault.Fault.{Fault}
use Rattle.tmem_fault.specs.declared.fault.Fault.TheVariants.{Device, Unknown, Damaged}

-- how many calls of the device have failed, once this is answered
abbrev pub failures_after : Fault → ℕ → ℕ
failures_after Device n = after_fault n
failures_after Unknown n = after_fault n
failures_after _ n = n

-- The device keeps its size, its premise is not restored, and a fault of it is answered exactly where one of its calls failed.
pub record Uses {T : Type 0} (old new : DeviceView) (result : Result T Fault) : Type 0 where
  pub capacity : new.capacity ≡ old.capacity
  pub model : new.keeps_model → old.keeps_model
  pub failures : MatchResult result (λ _. new.failures ≡ old.failures) (λ f. new.failures ≡ failures_after f old.failures)

-- A read gives what it gave before, and a crash leaves no more than before, at any moment.
pub record OnlyReads (old new : DeviceView) : Type 0 where
  pub seen : ReadsAs new old.seen
  pub crash : LeavesOnly new old.may_leave
  pub time : Elapses old new old.may_leave

-- Nothing outside a range of n bytes is written. A read gives there what it gave before, and a crash at any moment of the
-- call or after it leaves there what it might have left before.
pub record WritesWithin (at n : ℕ) (old new : DeviceView) : Type 0 where
  pub seen : SameSeenOutside at n old new
  pub crash : LeavesOnly new (Rewritten at n old)
  pub any_moment : AtEachMoment old new (Rewritten at n old)
  pub time : Elapses old new (Rewritten at n old)

-- made of a content that a crash might have left before
abbrev pub MadeBy : (List ℕ → List ℕ → Type 0) → DeviceView → List ℕ → Type 0
MadeBy R old c = (b : List ℕ) × old.may_leave b × R b c

-- a fault of a call that reads and writes
abbrev pub IsReadOrWrite : DeviceFault → Type 0
IsReadOrWrite fault = (fault ≡ Read) ⊎ (fault ≡ Write)

-- why what was looked for was not found: a failed call of the device, or else damage, as there is none
abbrev pub IsWhyNone : Type 0 → Fault → Type 0
IsWhyNone none Device = Unit {0}
IsWhyNone none Damaged = none
IsWhyNone none _ = ⊥
