-- What lies under the core's lock, and what it represents.
use Rattle.std.specs.Prelude.{◌≡◌, ◌⊎◌, ℕ, ◌-◌, ◌^◌, ◌<◌, ◌≤◌, Bool, true, false, List, drop}
use Rattle.tmem_effect.specs.State.{State, StaysWithin}
use Rattle.tmem_core.specs.declared.core_state.Core.{Core}
use Rattle.tmem_core.specs.Held as core
use Rattle.tmem_core.specs.Program.{Program, IsProgramOf}
use Rattle.tmem_spine.specs.declared.view.MarkedEffect.{MarkedEffect}
use Rattle.tmem_spine.specs.History.{count, unmarked}
use Rattle.tmem_spine.specs.Views.{CoreRoleView}
use Rattle.tmem_seats.specs.Histories.{state_after_history, AreSound}
use Rattle.tmem_seats.specs.declared.failure.Failure.{Failure}
use Rattle.tmem_seats.specs.declared.failure.Failure.TheVariants as failure

-- the core under its lock: what it committed, the number that is known durable, how many passes it gave out, whether it is
-- shut, whether what waits for a flush goes on waiting then, and how the device failed first
pub record CoreSeatView : Type 0 where
  pub committed : List MarkedEffect
  pub trimmed : ℕ
  pub given : ℕ
  pub is_shut : Bool
  pub is_draining : Bool
  pub failure : Failure

-- The core's state is what the committed effects make of the opening state, and is sound after each prefix of them, and within
-- the limits of counts and names. Those behind the number known durable wait. Its table has the program's invariants.
pub record IsCoreOf {T : Type 0} {t : _} (start : ℕ) (opening : State) (program : Program) (c : Core T t) (v : CoreRoleView) : Type 0 where
  pub state : core.core_state c ≡ state_after_history opening v.committed
  pub starts : opening.count ≡ start
  pub trimmed : core.durable_of c ≡ v.trimmed
  pub waits : core.waiting_of c ≡ drop (v.trimmed - start) (unmarked v.committed)
  pub late : start ≤ v.trimmed
  pub sound : AreSound program opening v.committed
  pub within : StaysWithin opening (unmarked v.committed)
  pub table : IsProgramOf t (core.core_table c) program

-- more than so many are committed, or the front is shut
abbrev pub HasMoreOrShut : ℕ → ℕ → CoreSeatView → Type 0
HasMoreOrShut start n v = (n < count start v.committed) ⊎ (v.is_shut ≡ true)

-- the front is shut, and no flush is to come
abbrev pub IsDrained : CoreSeatView → Type 0
IsDrained v = (v.is_shut ≡ true) × (v.is_draining ≡ false)

-- more than so many are known durable, or the front has ended
abbrev pub HasFlushedOrEnded : ℕ → CoreSeatView → Type 0
HasFlushedOrEnded n v = (n < v.trimmed) ⊎ IsDrained v

-- all that is durable is known so, or the front has ended
abbrev pub KnowsOrEnded : ℕ → List MarkedEffect → CoreSeatView → Type 0
KnowsOrEnded start durable v = (v.trimmed ≡ count start durable) ⊎ IsDrained v

-- fewer wait to be durable than may, which are 256, or the front is shut
abbrev pub HasRoomOrShut : ℕ → CoreSeatView → Type 0
HasRoomOrShut start v = (count start v.committed - v.trimmed < 2 ^ 8) ⊎ (v.is_shut ≡ true)

-- a transaction waits to be durable, or the front is shut
abbrev pub HasWorkOrShut : ℕ → CoreSeatView → Type 0
HasWorkOrShut start v = (v.trimmed < count start v.committed) ⊎ (v.is_shut ≡ true)

-- of two failures the first one is kept
abbrev pub first_failure : Failure → Failure → Failure
first_failure failure.None new = new
first_failure old _ = old
