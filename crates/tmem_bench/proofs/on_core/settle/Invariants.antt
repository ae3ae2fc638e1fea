use Rattle.std.proofs.Common.{◌≡◌, length}
use Rattle.tmem_core.specs.Held.{core_state}
use Rattle.tmem_tree.specs.StepAnswers.{StepMeanings}
use Rattle.tmem_tentative.specs.Cursors.{StandsIn}
use Rattle.tmem_bench.proofs.on_core.settle.Given as goal

-- the cursor stands in the evaluation of the plan
abbrev pub invariant-loop : goal.invariant-loop
invariant-loop g l = (length (core_state l.core).values ≡ l.vars) × ((m : StepMeanings) → g.S.StoredSteps.is_stated l.steps m → StandsIn m l.plan l.cursor)
