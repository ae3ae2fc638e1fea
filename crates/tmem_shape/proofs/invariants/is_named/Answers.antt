use Rattle.std.proofs.Common.{bytes_eq, sym, ◌∙◌, rules, tests}
use Rattle.std.proofs.lemmas.Iterator.{YieldsList-from_slice}
use Rattle.std.proofs.lemmas.Iterator.Search.{any_from_yields_List}
use Rattle.tmem_tables.specs.declared.linear.Linear.{Linear}
use Rattle.tmem_forms.proofs.Laws.{any_of_map}
use Rattle.tmem_shape.proofs.invariants.is_named.Goals as goal

pub returns : goal.returns
returns c =
    let linears = c.args.invariants.now in
    any_from_yields_List (λ (l : Linear). bytes_eq l.name c.args.name.now) _ _ c.any.result c.any.ensures.ran (YieldsList-from_slice linears cc) (λ x b q k. search (rules, tests))
    ∙ sym (any_of_map (λ n. bytes_eq n c.args.name.now) (λ (l : Linear). l.name) linears)
