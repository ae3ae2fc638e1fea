use Rattle.std.proofs.Common.{bytes_eq, sym, ◌∙◌, rules, tests}
use Rattle.std.proofs.lemmas.Iterator.{YieldsList-from_slice}
use Rattle.std.proofs.lemmas.Iterator.Search.{any_from_yields_List}
use Rattle.tmem_shape.specs.Keys.{key_text}
use Rattle.tmem_shape.specs.declared.key.Key.{Key}
use Rattle.tmem_forms.proofs.Laws.{any_of_map}
use Rattle.tmem_shape.proofs.members.is_among.Goals as goal

pub returns : goal.returns
returns c =
    let keys = c.args.keys.now in
    any_from_yields_List (λ (k : Key). bytes_eq (key_text k) c.args.text.now) _ _ c.any.result c.any.ensures.ran (YieldsList-from_slice keys cc) (λ x b q k. search (rules, tests))
    ∙ sym (any_of_map (λ n. bytes_eq n c.args.text.now) key_text keys)
