use Rattle.std.proofs.Common.{◌≤◌, ℕ, List, length, map, ap, ◌∙◌, subst}
use Rattle.std.proofs.lemmas.List.{take_all}
use Rattle.tmem_seats.specs.Histories.{state_after_history}
use Rattle.tmem_seats.specs.Refusing.{end_value}
use Rattle.tmem_front.proofs.refusing.at_end.Goals as goal

pub returns-clause-values : goal.returns-clause-values
returns-clause-values g c =
    let whole : length c.args.signature.now.footprint ≤ c.loop-var.var-index = subst (λ (l : List ℕ). length l ≤ c.loop-var.var-index) c.as_slice-var-items.ensures.vars c.loop-var-test.false in
    let present = (state_after_history g.N.StoreNaming.opening c.args.core.now.committed).values in
    c.loop-var.invariant.values ∙ ap (λ (l : List ℕ). map (λ (var : ℕ). end_value present c.args.writes.now var) l) (take_all c.loop-var.var-index c.args.signature.now.footprint whole)
