-- What the jobs bring to their store.
use Rattle.std.specs.Prelude.{ℕ, List, [], ◌∷◌, codes}
use Rattle.tmem_builtins.specs.Builtins.{builtin_steps}
use Rattle.tmem_builtins.specs.Invariants.{has_no_negative}
use Rattle.tmem_core.specs.Program.{Program}
use Rattle.tmem_bench.specs.declared.jobs.Act.{Act}
use Rattle.tmem_bench.specs.declared.jobs.Act.TheVariants.{Add, AddMany, Transfer, TransferMany, WideMany, TwoReads}
use Rattle.tmem_bench.specs.declared.jobs.Callers.{Callers}
use Rattle.tmem_bench.specs.declared.jobs.Callers.TheVariants.{Alone, Beside}
use Rattle.tmem_bench.specs.declared.store.StoreUse.{StoreUse}
use Rattle.tmem_bench.specs.declared.store.StoreUse.TheVariants.{Serve, FillLog, Open}
use Rattle.tmem_bench.specs.declared.store.On.{On}
use Rattle.tmem_bench.specs.declared.store.On.TheVariants.{Core, Store}

-- what the invariant of a job is over: all 16 variables, or the two accounts
abbrev pub variables_of : Act → List ℕ
variables_of WideMany = 0 ∷ 1 ∷ 2 ∷ 3 ∷ 4 ∷ 5 ∷ 6 ∷ 7 ∷ 8 ∷ 9 ∷ 10 ∷ 11 ∷ 12 ∷ 13 ∷ 14 ∷ 15 ∷ []
variables_of Add = 1 ∷ 2 ∷ []
variables_of AddMany = 1 ∷ 2 ∷ []
variables_of Transfer = 1 ∷ 2 ∷ []
variables_of TransferMany = 1 ∷ 2 ∷ []
variables_of TwoReads = 1 ∷ 2 ∷ []

-- after how many transactions a caller waits
abbrev pub stride_of : Act → ℕ
stride_of Add = 1
stride_of Transfer = 1
stride_of AddMany = 64
stride_of TransferMany = 64
stride_of WideMany = 64
stride_of TwoReads = 64

-- how many callers there are
abbrev pub callers_in : Callers → ℕ
callers_in Alone = 1
callers_in (Beside count) = count

-- what the invariant is over of a store with which this is done: the accounts where nothing moves
abbrev pub variables_in : StoreUse → List ℕ
variables_in (Serve job) = variables_of job.act
variables_in FillLog = 1 ∷ 2 ∷ []
variables_in Open = 1 ∷ 2 ∷ []

-- the same, on a core or on a store
abbrev pub variables_on : {D : Type 0} → On D → List ℕ
variables_on (Core job) = variables_of job.act
variables_on (Store disk task) = variables_in task

-- the stored steps, and the one invariant, which is over these variables
abbrev pub bench_bank : List ℕ → Program
bench_bank variables = record {
  steps = builtin_steps;
  names = codes "solvent" ∷ [];
  tests = record { footprint = λ name. variables; test = λ name values. has_no_negative values };
}
