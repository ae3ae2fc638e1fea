use Rattle.std.proofs.Common.{◌≡◌, ◌∙◌, [], List, ℕ, length, count_by, not, sym, subst}
use Rattle.std.proofs.lemmas.Bool.{eqb-true}
use Rattle.std.proofs.lemmas.List.{nil_from_length}
use Rattle.tmem_effect.specs.Names.{has_name}
use Rattle.tmem_effect.proofs.NamesRemoved.{length-without_names}
use Rattle.tmem_effect.proofs.names.count_others.Goals as goal

-- without names to leave out, all are left
pub returns-then-is_empty : goal.returns-then-is_empty
returns-then-is_empty c =
    let those = c.args.those.now in
    let names = c.args.names.now in
    let none : those ≡ [] = nil_from_length those (eqb-true (length those) 0 (sym c.is_empty.ensures ∙ c.if-is_empty.true)) in
    subst (λ (ms : List (List ℕ)). length names ≡ count_by (λ (n : List ℕ). not (has_name ms n)) names) (sym none) (length-without_names names [])
