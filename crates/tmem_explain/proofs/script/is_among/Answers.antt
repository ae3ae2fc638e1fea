use Rattle.std.proofs.Common.{ℕ, List, Bor, bytes_eq, sym, ◌∙◌, rules, tests}
use Rattle.std.proofs.lemmas.Iterator.{YieldsList-from_slice}
use Rattle.std.proofs.lemmas.Iterator.Search.{any_from_yields_List}
use Rattle.tmem_forms.proofs.Laws.{any_of_map}
use Rattle.tmem_explain.proofs.script.is_among.Goals as goal

pub returns : goal.returns
returns c =
    let keys = c.args.keys.now in
    any_from_yields_List (λ (k : Bor (List ℕ)). bytes_eq k.now c.args.key.now) _ _ c.any.result c.any.ensures.ran (YieldsList-from_slice keys cc) (λ x b q k. search (rules, tests))
    ∙ sym (any_of_map (λ n. bytes_eq n c.args.key.now) (λ (k : Bor (List ℕ)). k.now) keys)
