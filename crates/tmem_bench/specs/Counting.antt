-- What workers that count up did, as far as a pass and a store tell.
use Rattle.std.specs.Prelude.{◌≡◌, ◌<◌, ◌≤◌, ◌*◌, ◌++◌, ℕ, Bool, List, [], true, false, Result, length, All, IsOk, IfOk, if◌then◌else◌}
use Rattle.std.specs.Result.{result_unwrap_or}
use Rattle.std.specs.List.{sum_by}
use Rattle.tmem_builtins.specs.Builtins.{builtin_steps, builtin_tests}
use Rattle.tmem_core.specs.Program.{Program}
use Rattle.tmem_fault.specs.declared.fault.Fault.{Fault}
use Rattle.tmem_seats.specs.Histories.{IsPossibleValue}
use Rattle.tmem_effect.specs.State.{State}
use Rattle.tmem_effect.specs.declared.effect.Effect.{Effect}
use Rattle.tmem_spine.specs.History.{count}
use Rattle.tmem_spine.specs.Views.{PassRoleView}
use Rattle.tmem_tree.specs.declared.settled.Settled.{Settled}
use Rattle.tmem_tree.specs.declared.settled.Settled.TheVariants.{Committed}
use Rattle.tmem_bench.specs.declared.totals.Totals.{Totals}
use Rattle.tmem_bench.specs.declared.workers.CountingWork.{CountingWork}

-- what the store's steps answer; it has no invariants
abbrev pub counting : Program
counting = record { steps = builtin_steps; names = []; tests = builtin_tests }

-- The pass has so many more transactions of its own, each of which it has seen to be durable, and it has seen at least as
-- many to be durable as before.
pub record AddsDurable (start : ℕ) (old : PassRoleView) (n : ℕ) (new : PassRoleView) : Type 0 where
  pub added : List (ℕ × Effect)
  pub own : new.own ≡ old.own ++ added
  pub many : length added ≡ n
  pub durable : All (λ it. it.0 < count start new.seen) added
  pub later : count start old.seen ≤ count start new.seen

-- the transaction was committed
abbrev pub is_commit : Settled → Bool
is_commit (Committed number registers) = true
is_commit _ = false

-- one or none
abbrev pub once : Bool → ℕ
once is = if is then 1 else 0

-- what the workers committed together, where each was answered its own number
abbrev pub committed_together : List (Result ℕ Fault) → ℕ
committed_together answers = sum_by (λ answer. result_unwrap_or answer 0) answers

-- so many workers were each answered a number like that, and these add up to this one
pub record AreCounted (IsAnswer : ℕ → Type 0) (workers committed : ℕ) : Type 0 where
  pub answers : List (Result ℕ Fault)
  pub many : length answers ≡ workers
  pub all : All (λ answer. IsOk answer) answers
  pub each : All (λ answer. IfOk answer IsAnswer) answers
  pub sum : committed ≡ committed_together answers

-- What is told of a store that was opened in this state: no more was committed than was to be, variable 0 has a value
-- that it may have, and at least as many transactions are durable as the state counts. Where nothing is registered in
-- that state, any value may be. So for a caller that does not know the state, as one of `count_up`, this binds the first
-- number alone: tests see the other two.
pub record AreTotals (opening : State) (work : CountingWork) (t : Totals) : Type 0 where
  pub most : t.committed ≤ work.workers * work.turns
  pub value : IsPossibleValue counting opening 0 t.value
  pub durable : opening.count ≤ t.durable
