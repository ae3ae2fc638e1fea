-- What a transaction does, without any log: `run`. It is the meaning that Harris et al. 2005 (Composable Memory
-- Transactions, section 3) give to sequences, to `retry`, to `orElse` and, with an abort for an exception that nobody
-- catches, to exceptions, on a map and 16 registers in place of a heap and bound variables. A check tests its invariant on the
-- map so far, and proposes it by its name: one that is false there ends the run. A retirement takes a name back, so that it is
-- registered no longer. That an invariant may be broken inside a transaction is said in Harris and Peyton Jones 2006
-- (Transactional Memory with Data Invariants); that a check tests at its point, and the end of the transaction once more, is this
-- project's choice.
use Rattle.std.specs.Prelude.{ℕ, zero, ℤ, pos, Bool, true, false, List, map, nat_eq, slice_index_or, slice_set, replicate, if◌then◌else◌}
use Rattle.tmem_tree.specs.declared.tx.Tx.{Tx, Row_of-Tx, end_of-Tx, more_of-Tx}
use Rattle.tmem_tree.specs.declared.tx.Tx.TheVariants.{Skip, Seq', Put, Read, Write, Step, When', OrElse', Retry, Abort, Check, Retire}
use Rattle.tmem_tree.specs.declared.step.StepAnswer.{StepAnswer}
use Rattle.tmem_tree.specs.declared.step.StepAnswer.TheVariants as answer
use Rattle.tmem_tree.specs.StepAnswers.{StepMeanings}
use Rattle.tmem_invariants.specs.Meanings.{Meanings, holds_on}
use Rattle.tmem_effect.specs.State.{no_effect}
use Rattle.tmem_effect.specs.Names.{with_name, without_name}
use Rattle.tmem_effect.specs.Writes.{with_write}
use Rattle.tmem_effect.specs.declared.effect.Effect.{Effect}

-- a map of all variables, the 16 registers, and the effect so far
pub record View : Type 0 where
  pub values : ℕ → ℤ
  pub registers : List ℤ
  pub effect : Effect

-- how a run ends
pub data RunResult : Type 0 where
  Normal : (view : View) → RunResult
  Retried : RunResult
  Aborted : (code : ℕ) → RunResult
  Broken : (name : List ℕ) → RunResult

abbrev pub no_registers : List ℤ
no_registers = replicate 16 (pos 0)

-- where a run on a map begins
abbrev pub start : (ℕ → ℤ) → View
start values = record { values = values; registers = no_registers; effect = no_effect }

abbrev pub register : List ℤ → ℕ → ℤ
register registers reg = slice_index_or registers reg (pos 0)

-- the map with one value changed
abbrev pub updated : (ℕ → ℤ) → ℕ → ℤ → ℕ → ℤ
updated values var n v = if nat_eq v var then n else values v

-- the register takes the number
abbrev pub put : View → ℕ → ℤ → View
put view reg n = record view { registers = slice_set view.registers reg n }

-- the map and the effect take the number for the variable
abbrev pub write : View → ℕ → ℤ → View
write view var n = record {
  values = updated view.values var n;
  registers = view.registers;
  effect = record { writes = with_write view.effect.writes var n; names = view.effect.names; retired = view.effect.retired };
}

-- the effect takes the name, which is not retired then
abbrev pub check : View → List ℕ → View
check view name = record view {
  effect = record {
    writes = view.effect.writes;
    names = with_name view.effect.names name;
    retired = without_name view.effect.retired name;
  };
}

-- the effect retires the name, which is not proposed then
abbrev pub retire : View → List ℕ → View
retire view name = record view {
  effect = record {
    writes = view.effect.writes;
    names = without_name view.effect.names name;
    retired = with_name view.effect.retired name;
  };
}

abbrev pub is_zero : ℤ → Bool
is_zero (pos zero) = true
is_zero _ = false

-- goes on where the run ended normally
abbrev pub then_run : RunResult → (View → RunResult) → RunResult
then_run (Normal view) next = next view
then_run Retried next = Retried
then_run (Aborted code) next = Aborted code
then_run (Broken name) next = Broken name

-- the second in place of the first where that retried
abbrev pub or_else : RunResult → RunResult → RunResult
or_else (Normal view) second = Normal view
or_else Retried second = second
or_else (Aborted code) second = Aborted code
or_else (Broken name) second = Broken name

-- a value goes to the register
abbrev pub answered : StepAnswer → View → ℕ → RunResult
answered (answer.Value n) view out = Normal (put view out n)
answered answer.Retry view out = Retried
answered (answer.Abort code) view out = Aborted code

-- an invariant that holds is proposed
abbrev pub checked : Bool → View → List ℕ → RunResult
checked true view name = Normal (check view name)
checked false view name = Broken name

module _ (steps : StepMeanings) (tests : Meanings) where
  abbrev mutual
    pub run : Tx → View → RunResult
    run Skip view = Normal view
    run (Seq' shape txs) view = run_all txs view
    run (Put reg number) view = Normal (put view reg number)
    run (Read var reg) view = Normal (put view reg (view.values var))
    run (Write var reg) view = Normal (write view var (register view.registers reg))
    run (Step index args out) view = answered (steps index (map (register view.registers) args.items)) view out
    run (When' reg p a q b) view = if is_zero (register view.registers reg) then run b view else run a view
    -- both branches start from the same view
    run (OrElse' p a q b) view = or_else (run a view) (run b view)
    run Retry view = Retried
    run (Abort code) view = Aborted code
    run (Check name) view = checked (holds_on tests view.values name) view name
    run (Retire name) view = Normal (retire view name)

    -- one after another, up to the first that does not end normally
    pub run_all : {m : _} → Row_of-Tx m → View → RunResult
    run_all end_of-Tx view = Normal view
    run_all (more_of-Tx tx txs) view = then_run (run tx view) (run_all txs)
