use Rattle.std.proofs.Common.{◌≤◌, ℕ, length, ◌∙◌, sym, subst}
use Rattle.std.proofs.lemmas.List.{take_all}
use Rattle.tmem_front.proofs.refusing.paired.Goals as goal

pub returns-clause-vars : goal.returns-clause-vars
returns-clause-vars c = c.loop-at.invariant.vars ∙ take_all c.loop-at.at c.args.vars.now c.loop-at-test.false

pub returns-clause-values : goal.returns-clause-values
returns-clause-values c =
    let whole : length c.args.values.now ≤ c.loop-at.at = subst (λ (n : ℕ). n ≤ c.loop-at.at) (sym c.requires) c.loop-at-test.false in
    c.loop-at.invariant.values ∙ take_all c.loop-at.at c.args.values.now whole
