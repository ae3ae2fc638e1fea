use Rattle.std.proofs.Common.{ℕ, ℤ, nat_eq, sym, ◌∙◌, rules, tests}
use Rattle.std.proofs.lemmas.Iterator.{YieldsList-from_slice}
use Rattle.std.proofs.lemmas.Iterator.Search.{any_from_yields_List}
use Rattle.tmem_forms.proofs.Laws.{any_of_map}
use Rattle.tmem_requests.proofs.limits.has_variable.Goals as goal

pub returns : goal.returns
returns c =
    let pairs = c.args.pairs.now in
    any_from_yields_List (λ (p : ℕ × ℤ). nat_eq p.0 c.args.var) _ _ c.any.result c.any.ensures.ran (YieldsList-from_slice pairs cc) (λ x b q k. search (rules, tests))
    ∙ sym (any_of_map (λ k. nat_eq k c.args.var) (λ (p : ℕ × ℤ). p.0) pairs)
