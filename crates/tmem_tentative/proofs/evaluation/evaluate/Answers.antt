use Rattle.std.proofs.Common.{ℕ, List, drop, arith, sym, subst}
use Rattle.tmem_tree.specs.Signatures.{footprint_in}
use Rattle.tmem_tree.specs.StepAnswers.{StepMeanings}
use Rattle.tmem_tentative.specs.Ends.{IsMadeOf, start_state}
use Rattle.tmem_tentative.specs.Eval.{eval}
use Rattle.tmem_tentative.specs.Logs.{AreOf}
use Rattle.tmem_tentative.proofs.MadeOutcomes.{made_fits_plan}
use Rattle.tmem_tentative.proofs.RightOutcomes.{made_right}
use Rattle.tmem_tentative.proofs.SignatureFootprints.{own_of, meant_of}
use Rattle.tmem_tentative.proofs.evaluation.evaluate.Goals as goal

pub walk-requires : goal.walk-requires
walk-requires g c =
    rw (c.tree.ensures.tree, c.signatures.ensures.signatures, c.new-2.ensures)
    (record {
      registers = c.tree.ensures.limits.registers;
      steps = c.requires;
      known = c.tree.ensures.covered;
      writes = omega (arith, c.tree.ensures.limits.writes);
      checks = omega (arith, c.tree.ensures.limits.checks);
      retires = omega (arith, c.tree.ensures.limits.retires);
    })

pub returns : goal.returns
returns g c =
    let plan = c.args.plan.now in
    let reads = c.args.reads.now.entries in
    let answers = c.args.answers.now in
    let left = drop c.walk.new.tests.used answers in
    let made : (footprint : List ℕ → List ℕ) → AreOf plan.signatures footprint → (m : StepMeanings) → g.S.StoredSteps.is_stated c.args.steps.now m → IsMadeOf (eval m footprint reads plan.tree (start_state answers)) left c.outcome.result = λ footprint of m stated.
    subst (λ f. IsMadeOf f left c.outcome.result)
    (simp (c.new.ensures.empty, c.new-2.ensures, c.tree.ensures.tree) at (c.in_ok-flow.ensures.flow m footprint stated (subst (λ signatures. AreOf signatures footprint) (sym c.signatures.ensures.signatures) of)))
    (c.outcome.ensures left) in
    let fits = made_fits_plan (g.met.S.StoredSteps.has_meanings c.args.steps.now) c.tree.ensures.covered reads answers left c.outcome.result (made (footprint_in plan.signatures) (own_of plan.signatures)) in
    record {
      right = λ m tests stated meant gave. made_right m tests plan.tree reads answers left c.outcome.result gave (made tests.footprint (meant_of tests plan.signatures meant) m stated);
      fits = fits.fits c.tree.ensures.limits.writes c.tree.ensures.limits.checks c.tree.ensures.limits.retires;
      within = fits.within;
      named = fits.named;
      filled = fits.filled;
      fault = tt;
    }
