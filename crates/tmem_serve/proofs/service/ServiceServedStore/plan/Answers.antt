use Rattle.std.proofs.Common.{ℕ, List, subst}
use Rattle.tmem_tree.specs.Plans.{FitsSteps, FitsVariables}
use Rattle.tmem_serve.proofs.service.ServiceServedStore.plan.Goals as goal

pub invariant_of-result : goal.invariant_of-result
invariant_of-result g c = record {
  steps = subst (λ (l : List ℕ). FitsSteps l c.in-Ok.plan.tree) c.args.self.now.arities c.in-Ok.ensures.steps;
  variables = subst (λ (n : ℕ). FitsVariables n c.in-Ok.plan) c.args.self.now.front.now.over c.in-Ok.ensures.variables;
  names = c.in-Ok.ensures.names;
  signatures = c.in-Ok.ensures.signatures;
}
