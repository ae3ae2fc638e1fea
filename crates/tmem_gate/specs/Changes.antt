-- What a crash leaves of a change that is made as a whole: of a cell that is written, of an image, of a batch.
use Rattle.std.specs.Prelude.{◌⊎◌, ℕ, List, Result, Ok, Err}
use Rattle.tmem_disk.specs.Disk.{DeviceView, LeavesOnly, AtEachMoment}
use Rattle.tmem_fault.specs.declared.fault.Fault.{Fault}
use Rattle.tmem_fault.specs.declared.fault.Fault.TheVariants.{Device, Unknown}
use Rattle.tmem_gate.specs.Calls.{MadeBy, WritesWithin}

-- What became of it: it is made; it is not; one of the two; or nothing was written for it.
pub data ChangeOutcome : Type 0 where
  WasMade : ChangeOutcome
  NotMade : ChangeOutcome
  InDoubt : ChangeOutcome
  NotBegun : ChangeOutcome

-- as a call answers it
abbrev pub call_outcome : Result (Unit {0}) Fault → ChangeOutcome
call_outcome (Ok x) = WasMade
call_outcome (Err Device) = NotMade
call_outcome (Err Unknown) = InDoubt
call_outcome (Err f) = NotBegun

-- A change is given by what it makes of a content, and by what a content is made of where it is begun and not made.
abbrev pub Either : (List ℕ → List ℕ → Type 0) → (List ℕ → List ℕ → Type 0) → List ℕ → List ℕ → Type 0
Either Without With b c = Without b c ⊎ With b c

-- what a crash leaves once a call has answered
abbrev pub Becomes : (List ℕ → List ℕ → Type 0) → (List ℕ → List ℕ → Type 0) → DeviceView → ChangeOutcome → List ℕ → Type 0
Becomes Without With old WasMade = MadeBy With old
Becomes Without With old NotMade = MadeBy Without old
Becomes Without With old InDoubt = MadeBy (Either Without With) old
Becomes Without With old NotBegun = old.may_leave

-- and what a crash leaves at a moment of the call
abbrev pub Meanwhile : (List ℕ → List ℕ → Type 0) → (List ℕ → List ℕ → Type 0) → DeviceView → ChangeOutcome → List ℕ → Type 0
Meanwhile Without With old WasMade = MadeBy (Either Without With) old
Meanwhile Without With old NotMade = MadeBy Without old
Meanwhile Without With old InDoubt = MadeBy (Either Without With) old
Meanwhile Without With old NotBegun = old.may_leave

-- A call that makes a change in a range of n bytes, as its outcome is: nothing outside the range is written, and this is what a
-- crash leaves after the call, and at each moment of it.
pub record Puts (at n : ℕ) (Without With : List ℕ → List ℕ → Type 0) (old new : DeviceView) (o : ChangeOutcome) : Type 0 where
  pub elsewhere : WritesWithin at n old new
  pub stands : LeavesOnly new (Becomes Without With old o)
  pub any_moment : AtEachMoment old new (Meanwhile Without With old o)
