-- What becomes of a write at a device in memory that runs.
use Rattle.std.proofs.Common.{◌≡◌, ℕ, Bool, true, false, cond, List, length, refl, ◌∙◌, ap}
use Rattle.std.specs.Prelude.{◌&&◌, Option, Some, None, is_none, IsSome, IsTrue}
use Rattle.std.proofs.lemmas.Bool.{false≢true}
use Rattle.tmem_disk.specs.declared.power.Fill.{Fill}
use Rattle.tmem_disk.specs.declared.power.Power.{Power}
use Rattle.tmem_disk.specs.Failing.{is_next}
use Rattle.tmem_disk.specs.Power.{IsCrashed, IsArmed, writing, met_by_write, only_fails, unless_crashed}
use Rattle.tmem_disk.specs.Sim.{Bytes, range_unsynced, bytes_written}
use Rattle.tmem_disk.specs.SimParts.{bytes_after_write}

-- what runs goes on
unless_crashed-runs : {A : Type 0} (crashed : Option Fill) (before after : A) → ¬ IsSome crashed → unless_crashed crashed before after ≡ after
unless_crashed-runs None before after runs = refl
unless_crashed-runs (Some fill) before after runs = absurd (runs (search))

-- its range is unsynced, with its bytes as they were, where it only fails; else it is written
pub bytes_after_write-runs : (power : Power) (at : ℕ) (bytes : List ℕ) (b : Bytes) (fails : Bool) → ¬ IsCrashed power → only_fails at power ≡ fails
    → bytes_after_write power at bytes b ≡ cond fails (range_unsynced at (length bytes) b) (bytes_written at bytes b)
bytes_after_write-runs power at bytes b fails runs is =
    unless_crashed-runs power.crashed b (cond (only_fails at power) (range_unsynced at (length bytes) b) (bytes_written at bytes b)) runs ∙ ap (λ (v : Bool). cond v (range_unsynced at (length bytes) b) (bytes_written at bytes b)) is

left_of_and : (x y : Bool) → (x && y) ≡ true → IsTrue x
left_of_and true y both = search
left_of_and false y both = absurd (false≢true both)

-- one that only fails is armed to fail
pub only_fails-IsArmed : (power : Power) (at : ℕ) → only_fails at power ≡ true → IsArmed (writing at) power
only_fails-IsArmed power at both = left_of_and (is_next power.failing.write) (is_none (met_by_write at power.armed)) both
