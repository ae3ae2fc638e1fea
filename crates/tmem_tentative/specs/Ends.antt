-- How an evaluation of a whole transaction begins, and the attempt that one makes that has ended.
use Rattle.std.specs.Prelude.{◌≡◌, Bool, List, []}
use Rattle.tmem_effect.specs.State.{no_effect}
use Rattle.tmem_tree.specs.Run.{no_registers}
use Rattle.tmem_tree.specs.Visited.{Visit, Probe}
use Rattle.tmem_tentative.specs.Eval.{RunState, Flow, Goes, Stops, Retries, Leaves, Gives_up, Breaks}
use Rattle.tmem_tentative.specs.Logs.{run_state_of}
use Rattle.tmem_tentative.specs.Right.{IsBlank}
use Rattle.tmem_tentative.specs.Fits.{IsBlankUnlessNormal}
use Rattle.tmem_tentative.specs.declared.attempt.Outcome.{Outcome}
use Rattle.tmem_tentative.specs.declared.attempt.Outcome.TheVariants.{Need, Ended}
use Rattle.tmem_tentative.specs.declared.attempt.Outcome.TheVariants as outcome
use Rattle.tmem_tentative.specs.declared.attempt.Attempt.{Attempt}
use Rattle.tmem_tentative.specs.declared.attempt.Ending.{Ending}
use Rattle.tmem_tentative.specs.declared.attempt.Ending.TheVariants.{Normal, Retry, Abort, Broken}

-- nothing done, nothing read, and these answers to use
abbrev pub start_state : List Bool → RunState
start_state answers = record { registers = no_registers; effect = no_effect; seen = record { reads = []; left = answers } }

-- a run that has ended so in this state
abbrev pub ended_as : Ending → RunState → Flow
ended_as Normal s = Goes s
ended_as Retry s = Retries s.seen
ended_as (Abort code) s = Leaves (Gives_up code) s.seen
ended_as (Broken name) s = Leaves (Breaks name) s.seen

-- the run that the attempt is made of, with so many answers left
abbrev pub ended : Attempt → List Bool → Flow
ended a left = ended_as a.ending (run_state_of a left)

-- a run that has ended becomes an attempt: unless it ended normally, only its reads are left
abbrev pub IsEndOf : Attempt → Ending → Attempt → Type 0
IsEndOf old Normal new = new ≡ record old { ending = Normal }
IsEndOf old Retry new = (new.reads ≡ old.reads) × (new.ending ≡ Retry) × IsBlank new
IsEndOf old (Abort code) new = (new.reads ≡ old.reads) × (new.ending ≡ Abort code) × IsBlank new
IsEndOf old (Broken name) new = (new.reads ≡ old.reads) × (new.ending ≡ Broken name) × IsBlank new

-- what a run has come to, with some answers left where it has ended
abbrev pub IsMadeOf : Flow → List Bool → Outcome → Type 0
IsMadeOf flow left (Need var) = flow ≡ Stops (Visit var)
IsMadeOf flow left (outcome.Probe probe) = flow ≡ Stops (Probe probe.name probe.values)
IsMadeOf flow left (Ended a) = (flow ≡ ended a left) × IsBlankUnlessNormal a.ending a
