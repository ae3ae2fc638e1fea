use Rattle.std.proofs.Common.{Bool, not, ◌||◌, ap, sym, ◌∙◌}
use Rattle.tmem_effect.specs.Names.{has_name}
use Rattle.tmem_effect.proofs.NamesRemoved.{is_new}
use Rattle.tmem_effect.proofs.names.is_new.Goals as goal

pub returns-then-not-holds : goal.returns-then-not-holds
returns-then-not-holds c =
    let absent = ap (λ (b : Bool). not b || has_name c.args.retired.now c.args.name.now) (sym c.holds.ensures.held ∙ c.if-not-holds.true) in
    ap not c.if-not-holds.true ∙ sym (is_new c.args.held.now c.args.retired.now c.args.name.now ∙ absent)

pub returns-else-not-holds : goal.returns-else-not-holds
returns-else-not-holds c =
    let there = ap (λ (b : Bool). not b || has_name c.args.retired.now c.args.name.now) (sym c.holds.ensures.held ∙ c.if-not-holds.false) in
    c.holds-else-not-holds.ensures.held ∙ sym (is_new c.args.held.now c.args.retired.now c.args.name.now ∙ there)
