use Rattle.std.proofs.lemmas.Grind.{common_steps}
use Rattle.std.proofs.Common.{◌≡◌, ℕ, Some, map, String, Global, sym, ap, ◌∙◌, subst, arith}
use Rattle.serde_json.specs.View.{view, members_view}
use Rattle.tmem_fault.specs.Distinct.{AreDistinct}
use Rattle.tmem_shape.proofs.Named.{names_found, names_same}
use Rattle.tmem_shape.proofs.Objects.{object_found}
use Rattle.tmem_shape.proofs.Refusals.{no_value}
use Rattle.tmem_shape.proofs.names.names_of.Goals as goal

pub returns-in-Some-first_repeated-clause-refused :
    goal.returns-in-Some-first_repeated-clause-refused
returns-in-Some-first_repeated-clause-refused c = λ names has.
    let d = view c.args.value.now in
    let v = view c.in-Some.found.now in
    let members = c.in_ok-members.members in
    let found : c.as_object.result ≡ Some members = grind arith in
    let is = object_found v c.as_object.result members c.as_object.ensures found in
    let read = c.in_ok-names.names.items in
    let all = names_found d v (members_view members.now.entries) c.args.vars names (sym c.in-Some.ensures) is has in
    let same = names_same read names (sym c.in_ok-names.ensures.ok ∙ all) in
    let variables = c.deref-2.ensures.value ∙ c.in_ok-variables.ensures ∙ ap (map (λ (n : String Global × ℕ). n.1)) c.deref.ensures.value ∙ same in
    c.in-Some-first_repeated.ensures.distinct (subst AreDistinct (sym variables) has.distinct)

pub index-requires : goal.index-requires
index-requires c = grind (arith, common_steps)

pub returns-in_err-members-clause-ok : goal.returns-in_err-members-clause-ok
returns-in_err-members-clause-ok c = no_value _ _ c.from_residual.result c.from_residual.ensures.1

pub returns-in_err-names-clause-ok : goal.returns-in_err-names-clause-ok
returns-in_err-names-clause-ok c = no_value _ _ c.from_residual-in_err-names.result c.from_residual-in_err-names.ensures.1

pub returns-in_err-variables-clause-ok : goal.returns-in_err-variables-clause-ok
returns-in_err-variables-clause-ok c = no_value _ _ c.from_residual-in_err-variables.result c.from_residual-in_err-variables.ensures.1

pub returns-in_err-name-clause-ok : goal.returns-in_err-name-clause-ok
returns-in_err-name-clause-ok c = no_value _ _ c.from_residual-in_err-name.result c.from_residual-in_err-name.ensures.1
