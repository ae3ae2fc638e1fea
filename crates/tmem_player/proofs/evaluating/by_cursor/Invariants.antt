use Rattle.tmem_tree.specs.StepAnswers.{StepMeanings}
use Rattle.tmem_tentative.specs.Cursors.{StandsIn}
use Rattle.tmem_player.proofs.evaluating.by_cursor.Given as goal

abbrev pub invariant-loop : goal.invariant-loop
invariant-loop g l = (m : StepMeanings) → g.S.StoredSteps.is_stated l.steps m → StandsIn m l.plan l.cursor
