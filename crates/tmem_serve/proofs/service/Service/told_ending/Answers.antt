use Rattle.std.proofs.Common.{ℕ, List, sym, subst}
use Rattle.tmem_tree.specs.Plans.{FitsSteps}
use Rattle.tmem_serve.proofs.service.Service.told_ending.Goals as goal

pub why_refused-requires-clause-steps : goal.why_refused-requires-clause-steps
why_refused-requires-clause-steps g c = subst (λ (l : List ℕ). FitsSteps l c.args.ready.now.plan.tree) (sym c.args.self.now.arities) c.args.ready.now.steps
