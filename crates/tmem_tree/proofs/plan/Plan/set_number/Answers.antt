use Rattle.std.proofs.Common.{◌∙◌, sym}
use Rattle.tmem_tree.proofs.Alike.{alike_by, limits_kept, short_kept, steps_kept, variables_kept, names_kept, still_covered}
use Rattle.tmem_tree.proofs.plan.Plan.set_number.Goals as goal

pub invariant_of-self : goal.invariant_of-self
invariant_of-self c =
    let same = alike_by _ _ c.self.inside.tx _ c.change_number.ensures.tree in
    let was = c.self.invariant in
    record {
      limits = limits_kept same was.limits;
      covered = still_covered same _ was.covered;
      choices = was.choices ∙ sym same.choices;
      short = (λ yes. (short_kept same).1 (was.short.0 yes), λ short. was.short.1 ((short_kept same).0 short));
    }

pub returns-clause-steps : goal.returns-clause-steps
returns-clause-steps c = rw (← c.self.view_is) (steps_kept (alike_by _ _ c.self.inside.tx _ c.change_number.ensures.tree))

pub returns-clause-variables : goal.returns-clause-variables
returns-clause-variables c =
    rw (← c.self.view_is) (λ vars. variables_kept (alike_by _ _ c.self.inside.tx _ c.change_number.ensures.tree) vars c.self.inside.signatures)

pub returns-clause-names : goal.returns-clause-names
returns-clause-names c = rw (← c.self.view_is) (names_kept (alike_by _ _ c.self.inside.tx _ c.change_number.ensures.tree))

pub returns-clause-short : goal.returns-clause-short
returns-clause-short c = rw (← c.self.view_is) (short_kept (alike_by _ _ c.self.inside.tx _ c.change_number.ensures.tree))

pub returns-clause-choices : goal.returns-clause-choices
returns-clause-choices c = rw (← c.self.view_is) (alike_by _ _ c.self.inside.tx _ c.change_number.ensures.tree).choices
