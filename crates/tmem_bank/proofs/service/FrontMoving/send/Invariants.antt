use Rattle.tmem_tree.specs.Plans.{FitsSteps, FitsVariables, FitsNames, FitsSignatures}
use Rattle.tmem_bank.proofs.service.FrontMoving.send.Given as goal

-- the plan is one of this front
abbrev pub invariant-loop-turn : goal.invariant-loop-turn
invariant-loop-turn g l = record {
  steps : FitsSteps (g.S.StoredSteps.arities l.self.steps) l.plan.tree;
  variables : FitsVariables l.self.vars l.plan;
  names : FitsNames g.N.ProgramNaming.program.names l.plan.tree;
  signatures : FitsSignatures g.N.ProgramNaming.program.tests l.plan;
}
