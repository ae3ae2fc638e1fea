use Rattle.std.proofs.Common.{rules, ℕ, ◌<◌, sym, ◌∙◌, subst}
use Rattle.std.specs.List.{All}
use Rattle.tmem_front.proofs.Again.{knows_still}
use Rattle.tmem_front.proofs.There.{all_there, where_ok}
use Rattle.tmem_front.proofs.front.Front.moment.Goals as goal

pub returns-then-has_other-clause-refused : goal.returns-then-has_other-clause-refused
returns-then-has_other-clause-refused g c = rw (sym c.has_other.ensures ∙ c.if-has_other.true) (search rules)

pub returns-then-has_other-clause-knows : goal.returns-then-has_other-clause-knows
returns-then-has_other-clause-knows g c = knows_still c.args.pass.now

pub returns-clause-there : goal.returns-clause-there
returns-clause-there g c = where_ok c.moment_of.result (sym c.has_other.ensures ∙ c.if-has_other.false)

pub returns-clause-refused : goal.returns-clause-refused
returns-clause-refused g c = rw (sym c.has_other.ensures ∙ c.if-has_other.false) c.moment_of.ensures.memory

pub moment_of-requires : goal.moment_of-requires
moment_of-requires g c =
    let front = c.args.self.now in
    subst (λ (n : ℕ). All (λ var. var < n) c.args.vars.now) front.over (all_there front.vars c.args.vars.now (sym c.has_other.ensures ∙ c.if-has_other.false))
