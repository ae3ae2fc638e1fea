use Rattle.tmem_bank.proofs.service.FrontMoving.send.Goals as goal

pub commit_durable-settled-requires-clause-steps : goal.commit_durable-settled-requires-clause-steps
commit_durable-settled-requires-clause-steps g c = c.pays_more.ensures.steps (g.S.StoredSteps.arities c.args.self.now.steps) c.loop-turn.invariant.steps

pub commit_durable-settled-requires-clause-variables : goal.commit_durable-settled-requires-clause-variables
commit_durable-settled-requires-clause-variables g c = c.pays_more.ensures.variables c.args.self.now.vars c.loop-turn.invariant.variables

pub loop-turn-preserved : goal.loop-turn-preserved
loop-turn-preserved g c = record {
  steps = c.pays_more.ensures.steps (g.S.StoredSteps.arities c.args.self.now.steps) c.loop-turn.invariant.steps;
  variables = c.pays_more.ensures.variables c.args.self.now.vars c.loop-turn.invariant.variables;
  names = c.pays_more.ensures.names g.N.ProgramNaming.program.names c.loop-turn.invariant.names;
  signatures = c.pays_more.ensures.signatures g.N.ProgramNaming.program.tests c.loop-turn.invariant.signatures;
}
