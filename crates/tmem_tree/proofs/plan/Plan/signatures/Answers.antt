use Rattle.tmem_tree.proofs.plan.Plan.signatures.Goals as goal

pub returns-clause-covered : goal.returns-clause-covered
returns-clause-covered c = rw (← c.self.view_is) c.self.invariant.covered
