use Rattle.std.proofs.Common.{◌≡◌, false}
use Rattle.tmem_core.specs.SettleAnswer.{has_changed}
use Rattle.tmem_tree.specs.StepAnswers.{StepMeanings}
use Rattle.tmem_tentative.specs.Cursors.{IsAt, StandsIn, given}
use Rattle.tmem_seats.specs.Histories.{state_after_history}
use Rattle.tmem_seats.proofs.core_seat.CoreSeat.evaluate.Given as goal

-- the cursor stands in the evaluation of the plan, was given present values alone, and was answered what the program's names mean
abbrev pub invariant-loop : goal.invariant-loop
invariant-loop g l = record {
  stands : (m : StepMeanings) → g.S.StoredSteps.is_stated l.fn.steps m → StandsIn m l.fn.plan l.cursor;
  at : (m : StepMeanings) → g.S.StoredSteps.is_stated l.fn.steps m → IsAt m g.N.ProgramNaming.program.tests l.fn.plan.tree l.cursor;
  present : has_changed (state_after_history g.N.StoreNaming.opening l.fn.self.committed) (given l.cursor) ≡ false;
}
