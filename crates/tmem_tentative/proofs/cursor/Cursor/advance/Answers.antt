use Rattle.std.proofs.Common.{◌≡◌, ℕ, List, refl, rules}
use Rattle.tmem_invariants.specs.Meanings.{Meanings}
use Rattle.tmem_tree.specs.Plans.{FitsSignatures}
use Rattle.tmem_tree.specs.Signatures.{footprint_in}
use Rattle.tmem_tree.specs.StepAnswers.{StepMeanings}
use Rattle.tmem_tentative.specs.declared.attempt.Progress.TheVariants.{Need, Probe, Ended}
use Rattle.tmem_tentative.specs.Cursors.{IsAt, StandsIn, IsAtStage, given, answers}
use Rattle.tmem_tentative.specs.Logs.{AreOf}
use Rattle.tmem_tentative.proofs.CursorKept.{stays}
use Rattle.tmem_tentative.proofs.CursorStands.{at_right, at_still, stands_fit}
use Rattle.tmem_tentative.proofs.SignatureFootprints.{meant_of, own_of}
use Rattle.tmem_tentative.proofs.cursor.Cursor.advance.Goals as goal

pub returns-in_ok-reserve-in-Going : goal.returns-in_ok-reserve-in-Going
returns-in_ok-reserve-in-Going g c =
    let old = c.args.self.now in
    let plan = c.args.plan.now in
    let new = c.go_on.new.self in
    let goes : (m : StepMeanings) (footprint : List ℕ → List ℕ) → g.S.StoredSteps.is_stated c.args.steps.now m → AreOf plan.signatures footprint → IsAtStage m footprint plan.tree old.stage old → IsAtStage m footprint plan.tree new.stage new = λ m footprint stated of at.
    c.go_on.ensures.stands m footprint stated of
    (stays old _ (record { stage = refl; given = c.in_ok-reserve-in-Going.ensures.entries; answers = refl; unused = refl; probe = refl; place = refl; ending = refl }) m footprint plan.tree at) in
    let stands : (m : StepMeanings) → g.S.StoredSteps.is_stated c.args.steps.now m → StandsIn m plan new = λ m stated.
    goes m (footprint_in plan.signatures) stated (own_of plan.signatures) (c.requires.stands m stated) in
    let same_given : given new ≡ given old = search rules in
    let same_answers : answers new ≡ answers old = search rules in
    let at : (m : StepMeanings) (tests : Meanings) → g.S.StoredSteps.is_stated c.args.steps.now m → FitsSignatures tests plan → IsAt m tests plan.tree old → IsAt m tests plan.tree new = λ m tests stated fits at.
    at_still m tests plan.tree old new (goes m tests.footprint stated (meant_of tests plan.signatures fits) at.stands) same_given same_answers at in
    let fit = stands_fit plan new c.go_on.result (g.met.S.StoredSteps.has_meanings c.args.steps.now) c.tree-tree.ensures.covered stands c.go_on.ensures.answered in
    record {
      stands = stands;
      at = at;
      given = same_given;
      answers = same_answers;
      answered = c.go_on.ensures.answered;
      right = λ m tests stated fits old_at. at_right m tests plan.tree new c.go_on.result (at m tests stated fits old_at) c.go_on.ensures.answered;
      fits = fit.fits c.tree-tree.ensures.limits.writes c.tree-tree.ensures.limits.checks c.tree-tree.ensures.limits.retires;
      within = fit.within;
      named = fit.named;
      filled = fit.filled;
      same = tt;
      fault = tt;
    }

pub returns-in-Waits : goal.returns-in-Waits
returns-in-Waits g c =
    let cursor = c.args.self.now in
    let fit = stands_fit c.args.plan.now cursor (Need c.in-Waits.var) (g.met.S.StoredSteps.has_meanings c.args.steps.now) c.tree-tree.ensures.covered c.requires.stands c.in-Waits.is in
    record {
      stands = c.requires.stands;
      at = λ m tests stated fits at. at;
      given = refl;
      answers = refl;
      answered = c.in-Waits.is;
      right = λ m tests stated fits at. at_right m tests c.args.plan.now.tree cursor (Need c.in-Waits.var) at c.in-Waits.is;
      fits = fit.fits c.tree-tree.ensures.limits.writes c.tree-tree.ensures.limits.checks c.tree-tree.ensures.limits.retires;
      within = fit.within;
      named = fit.named;
      filled = fit.filled;
      same = tt;
      fault = tt;
    }

pub returns-in-Tests : goal.returns-in-Tests
returns-in-Tests g c =
    let cursor = c.args.self.now in
    let fit = stands_fit c.args.plan.now cursor Probe (g.met.S.StoredSteps.has_meanings c.args.steps.now) c.tree-tree.ensures.covered c.requires.stands c.in-Tests.is in
    record {
      stands = c.requires.stands;
      at = λ m tests stated fits at. at;
      given = refl;
      answers = refl;
      answered = c.in-Tests.is;
      right = λ m tests stated fits at. at_right m tests c.args.plan.now.tree cursor Probe at c.in-Tests.is;
      fits = fit.fits c.tree-tree.ensures.limits.writes c.tree-tree.ensures.limits.checks c.tree-tree.ensures.limits.retires;
      within = fit.within;
      named = fit.named;
      filled = fit.filled;
      same = tt;
      fault = tt;
    }

pub returns-in-Ended : goal.returns-in-Ended
returns-in-Ended g c =
    let cursor = c.args.self.now in
    let fit = stands_fit c.args.plan.now cursor Ended (g.met.S.StoredSteps.has_meanings c.args.steps.now) c.tree-tree.ensures.covered c.requires.stands c.in-Ended.is in
    record {
      stands = c.requires.stands;
      at = λ m tests stated fits at. at;
      given = refl;
      answers = refl;
      answered = c.in-Ended.is;
      right = λ m tests stated fits at. at_right m tests c.args.plan.now.tree cursor Ended at c.in-Ended.is;
      fits = fit.fits c.tree-tree.ensures.limits.writes c.tree-tree.ensures.limits.checks c.tree-tree.ensures.limits.retires;
      within = fit.within;
      named = fit.named;
      filled = fit.filled;
      same = tt;
      fault = tt;
    }
