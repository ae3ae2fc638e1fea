use Rattle.tmem_tree.proofs.plan.Plan.tree.Goals as goal

pub returns-clause-covered : goal.returns-clause-covered
returns-clause-covered c = rw (← c.self.view_is) c.self.invariant.covered
