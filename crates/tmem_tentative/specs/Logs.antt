-- The log as a state.
use Rattle.std.specs.Prelude.{◌≡◌, ⊤, ℕ, ℤ, ◌+◌, ◌≤◌, Bool, true, List, length, Option, Some, None}
use Rattle.tmem_effect.specs.Names.{has_name}
use Rattle.tmem_effect.specs.declared.effect.Effect.{Effect}
use Rattle.tmem_tree.specs.declared.tx.Tx.{Tx}
use Rattle.tmem_tree.specs.Limits.{count, is_write, is_check, is_retire, has_bad_register}
use Rattle.tmem_tree.specs.Plans.{FitsSteps, HasSignatures}
use Rattle.tmem_tree.specs.Signatures.{names_of, footprint_in}
use Rattle.tmem_tree.specs.Visited.{Ask, Visit, Probe}
use Rattle.tmem_tree.specs.declared.signature.Signature.{Signature}
use Rattle.tmem_tentative.specs.declared.attempt.Attempt.{Attempt}
use Rattle.tmem_tentative.specs.declared.attempt.Ending.{Ending}
use Rattle.tmem_tentative.specs.declared.attempt.Ending.TheVariants as ending
use Rattle.tmem_tentative.specs.declared.attempt.Probe.{Probe as Asked}
use Rattle.tmem_tentative.specs.declared.flow.Flow.{Flow}
use Rattle.tmem_tentative.specs.declared.flow.Flow.TheVariants.{Normal, Need, Test, Retry, Leave}
use Rattle.tmem_tentative.specs.Eval as eval
use Rattle.tmem_tentative.specs.Eval.{RunState, Taken, Leaving, Gives_up, Breaks, Goes, Stops, Retries, Leaves, FootprintSeen, Lacks, Found}

-- a log, with these answers left
abbrev pub taken_of : Attempt → List Bool → Taken
taken_of log left = record { reads = log.reads.entries; left = left }

abbrev pub run_state_of : Attempt → List Bool → RunState
run_state_of log left = record { registers = log.registers; effect = log.effect; seen = taken_of log left }

-- how a run has come out: it went to its end, it stopped where it asks, it gave way, or it was left for good
pub data Out : Type 0 where
  Went : Out
  Stopped : (ask : Ask) → Out
  Gave_way : Out
  Left : (how : Leaving) → Out

-- where such a run stands
abbrev pub flow_at : Out → RunState → eval.Flow
flow_at Went s = Goes s
flow_at (Stopped ask) s = Stops ask
flow_at Gave_way s = Retries s.seen
flow_at (Left how) s = Leaves how s.seen

-- why a run was left for good, as its log says; the log of any other run says nothing of that
abbrev pub left_for : Ending → Leaving
left_for (ending.Abort code) = Gives_up code
left_for (ending.Broken name) = Breaks name
left_for _ = Gives_up 0

-- an ending that leaves a run for good
abbrev pub IsLeaving : Ending → Type 0
IsLeaving (ending.Abort code) = ⊤
IsLeaving (ending.Broken name) = ⊤
IsLeaving _ = ⊥

-- how the code has come out, with this log and this test at hand
abbrev pub out_of : Flow → Attempt → Asked → Out
out_of Normal log probe = Went
out_of (Need var) log probe = Stopped (Visit var)
out_of Test log probe = Stopped (Probe probe.name probe.values)
out_of Retry log probe = Gave_way
out_of Leave log probe = Left (left_for log.ending)

-- what is seen of a footprint: that a variable is lacking, or these values
abbrev pub footprint_seen_as : Option ℕ → List ℤ → RunState → FootprintSeen
footprint_seen_as (Some var) values s = Lacks var
footprint_seen_as None values s = Found values s

-- these are the footprints of the signatures, for each name that those have
abbrev pub AreOf : List Signature → (List ℕ → List ℕ) → Type 0
AreOf signatures footprint = (name : List ℕ) → has_name (names_of signatures) name ≡ true → footprint name ≡ footprint_in signatures name

-- a run of this tree may go on, for steps that take so many arguments and for signatures of these names, where the effect has room for
-- what it writes, checks and retires
pub record MayWalk (arities : List ℕ) (names : List (List ℕ)) (tx : Tx) (effect : Effect) : Type 0 where
  pub registers : count has_bad_register tx ≡ 0
  pub steps : FitsSteps arities tx
  pub known : HasSignatures names tx
  pub writes : length effect.writes + count is_write tx ≤ 64
  pub checks : length effect.names + count is_check tx ≤ 8
  pub retires : length effect.retired + count is_retire tx ≤ 8
