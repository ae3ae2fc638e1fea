use Rattle.tmem_tree.specs.StepAnswers.{StepMeanings}
use Rattle.tmem_tentative.specs.Cursors.{IsAt, StandsIn}
use Rattle.tmem_front.proofs.front.Front.evaluate.Given as goal

-- the cursor stands in the evaluation of the plan, and was answered what the program's names mean
abbrev pub invariant-loop : goal.invariant-loop
invariant-loop g l = record {
  stands : (m : StepMeanings) → g.S.StoredSteps.is_stated l.fn.self.steps m → StandsIn m l.fn.plan l.cursor;
  at : (m : StepMeanings) → g.S.StoredSteps.is_stated l.fn.self.steps m → IsAt m g.N.ProgramNaming.program.tests l.fn.plan.tree l.cursor;
}
