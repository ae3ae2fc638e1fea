use Rattle.std.proofs.Common.{◌≡◌, ℕ, ◌+◌, ◌≤◌, List, drop, length}
use Rattle.tmem_tree.specs.StepAnswers.{StepMeanings}
use Rattle.tmem_tree.specs.Limits.{count, is_write, is_check, is_retire, has_bad_register, has_bad_step, has_bad_arguments, lacks_signature}
use Rattle.tmem_tree.specs.Signatures.{names_of}
use Rattle.tmem_tree.proofs.Laws.{count_items}
use Rattle.tmem_tentative.specs.Eval.{eval}
use Rattle.tmem_tentative.specs.Logs.{AreOf, run_state_of}
use Rattle.tmem_tentative.proofs.EvalSeq.{eval_in}
use Rattle.tmem_tentative.proofs.walk.+walk.Given as goal

abbrev pub invariant-walk-loop-t : goal.invariant-walk-loop-t
invariant-walk-loop-t g l =
    let arities = g.S.StoredSteps.arities l.steps in
    let signatures = l.given.signatures.now in
    let reads = l.given.reads.now.entries in
    let answers = l.given.answers.now in
    let rest = drop l.t-index l.t-items in record {
      registers : count_items has_bad_register rest ≡ 0;
      steps : count_items (has_bad_step arities) rest ≡ 0;
      arguments : count_items (has_bad_arguments arities) rest ≡ 0;
      known : count_items (lacks_signature (names_of signatures)) rest ≡ 0;
      flow : (m : StepMeanings) (footprint : List ℕ → List ℕ) → g.S.StoredSteps.is_stated l.steps m → AreOf signatures footprint
          → eval m footprint reads l.tx (run_state_of l.initial.log (drop l.initial.tests.used answers)) ≡ eval_in m footprint reads rest (run_state_of l.log (drop l.tests.used answers));
      writes : length l.log.effect.writes + count_items is_write rest ≤ length l.initial.log.effect.writes + count is_write l.tx;
      checks : length l.log.effect.names + count_items is_check rest ≤ length l.initial.log.effect.names + count is_check l.tx;
      retires : length l.log.effect.retired + count_items is_retire rest ≤ length l.initial.log.effect.retired + count is_retire l.tx;
    }
