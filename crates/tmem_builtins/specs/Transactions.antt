-- What the transactions do that are made of the steps of scripts. They work in the last two of the 16 registers.
use Rattle.std.specs.Prelude.{◌≡◌, ℕ, ◌<◌, ℤ, Bool, true, false, List, [], ◌∷◌, ◌++◌, length, if◌then◌else◌}
use Rattle.std.specs.declared.vec.Vec.{Vec}
use Rattle.std.specs.declared.alloc.Global.{Global}
use Rattle.tmem_tree.specs.declared.tx.Tx.{Tx}
use Rattle.tmem_tree.specs.declared.tx.Tx.TheVariants.{Read, Step}
use Rattle.tmem_tree.specs.Limits.{depth, count, is_node, is_write, is_check, is_retire, has_bad_register, has_bad_variable}
pub use Rattle.tmem_tree.specs.Limits.{is_put}
use Rattle.tmem_tree.specs.Plans.{FitsSteps, FitsNames}
use Rattle.tmem_tree.specs.StepAnswers.{StepMeanings}
use Rattle.tmem_tree.specs.Run.{View, RunResult, Normal, Retried, Aborted, run, put, write, then_run, or_else}
use Rattle.tmem_tree.specs.Visited.{Ask, asks, else_ask}
use Rattle.tmem_invariants.specs.Meanings.{Meanings}
use Rattle.tmem_builtins.specs.Builtins.{builtin_steps}
use Rattle.tmem_builtins.specs.Steps.{is_i64}

-- from each view it ends so, whatever the invariants mean. (A view has 16 registers where a run begins, and no transaction changes
-- their number.)
abbrev pub RunsAs : Tx → (View → RunResult) → Type 0
RunsAs tx ending = (tests : Meanings) (view : View) → length view.registers ≡ 16 → run builtin_steps tests tx view ≡ ending view

-- it asks for what one Read of this variable does, and no more
abbrev pub ReadsOnly : ℕ → Tx → Type 0
ReadsOnly var tx = (tests : Meanings) (view : View) → asks builtin_steps tests tx view ≡ asks builtin_steps tests (Read var 14) view

-- it reads no variable, and tests no invariant
abbrev pub ReadsNone : Tx → Type 0
ReadsNone tx = (tests : Meanings) (view : View) → asks builtin_steps tests tx view ≡ []

-- the last two registers take these numbers
abbrev pub scratched : View → ℤ → ℤ → View
scratched view value number = put (put view 14 value) 15 number

-- the variable takes a new value that was made with a number, and both stay in the last two registers. Where the value is no
-- i64, an abort
abbrev pub changed : View → ℕ → ℤ → ℤ → RunResult
changed view var value number =
    if is_i64 value then Normal (write (scratched view value number) var value) else Aborted 65535

-- one after another, up to the first that does not end normally
abbrev pub run_in_turn : StepMeanings → Meanings → List Tx → View → RunResult
run_in_turn steps tests [] view = Normal view
run_in_turn steps tests (tx ∷ txs) view = then_run (run steps tests tx view) (run_in_turn steps tests txs)

-- each from the same view, up to the first that does not retry. Where there is none, it retries
abbrev pub run_first : StepMeanings → Meanings → List Tx → View → RunResult
run_first steps tests [] view = Retried
run_first steps tests (tx ∷ txs) view = or_else (run steps tests tx view) (run_first steps tests txs view)

-- what is asked then
abbrev pub first_asks : StepMeanings → Meanings → List Tx → View → List Ask
first_asks steps tests [] view = []
first_asks steps tests (tx ∷ txs) view = asks steps tests tx view ++ else_ask (run steps tests tx view) (first_asks steps tests txs view)

-- what it adds to the limits of a plan: two levels, so many nodes and writes, no check, no retirement and no register past the
-- last. And it fits the three steps of scripts, and each store that has this variable
pub record IsSized (nodes writes var : ℕ) (tx : Tx) : Type 0 where
  pub levels : depth tx ≡ 2
  pub all_nodes : count is_node tx ≡ nodes
  pub all_writes : count is_write tx ≡ writes
  pub checks : count is_check tx ≡ 0
  pub retires : count is_retire tx ≡ 0
  pub registers : count has_bad_register tx ≡ 0
  pub variables : (vars : ℕ) → var < vars → count (has_bad_variable vars) tx ≡ 0
  pub steps : FitsSteps (2 ∷ 2 ∷ 2 ∷ []) tx
  pub names : (known : List (List ℕ)) → FitsNames known tx

-- it calls the step of this index on two registers, and the answer goes to the first
pub record IsStepCall (index first second : ℕ) (tx : Tx) : Type 0 where
  pub args : Vec ℕ Global
  pub is : tx ≡ Step index args first
  pub on : args.items ≡ first ∷ second ∷ []
