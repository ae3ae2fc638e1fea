use Rattle.std.proofs.Common.{◌≡◌, ℤ, List, length}
use Rattle.std.specs.Prelude.{IfSome}
use Rattle.tmem_tree.specs.StepAnswers.{StepMeanings}
use Rattle.tmem_tentative.specs.Cursors.{StandsIn}
use Rattle.tmem_front.proofs.front.Front.last_test.Given as goal

-- the cursor stands in the evaluation of the plan, and what failed last has a value for each variable of the footprint
abbrev pub invariant-loop : goal.invariant-loop
invariant-loop g l = record {
  stands : (m : StepMeanings) → g.S.StoredSteps.is_stated l.fn.self.steps m → StandsIn m l.fn.plan l.cursor;
  filled : IfSome l.failed (λ (values : List ℤ). length values ≡ length (g.N.ProgramNaming.program.tests.footprint l.fn.name));
}
