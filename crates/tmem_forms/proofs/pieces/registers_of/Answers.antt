use Rattle.std.proofs.Common.{◌≡◌, ℕ, List, [], ◌∷◌, ◌++◌, map, All, Some, ap, ◌∙◌, arith}
use Rattle.std.proofs.lemmas.List.Elements.{All-push, All-same}
use Rattle.serde_json.specs.View.{view, items_view}
use Rattle.tmem_forms.specs.TxForms.{IsByte, natural, array_of}
use Rattle.tmem_forms.proofs.ArrayForms.{items_found}
use Rattle.tmem_forms.proofs.Laws.{passed_on, map_more, no_items_at}
use Rattle.tmem_forms.proofs.pieces.registers_of.Goals as goal

pub returns-in_err-byte_of-clause-refused : goal.returns-in_err-byte_of-clause-refused
returns-in_err-byte_of-clause-refused c =
    let items = c.in_ok-items.items in
    let found : c.as_array.result ≡ Some items = grind arith in
    passed_on ((n : ℕ) → IsByte n → ¬ (view c.item-item.result ≡ natural n))
    ((registers : List ℕ) → All IsByte registers → ¬ (view c.args.value.now ≡ array_of (map natural registers)))
    c.from_residual-in_err-byte_of.result c.in_err-byte_of.field-0.0 c.from_residual-in_err-byte_of.ensures.1 c.in_err-byte_of.ensures.refused
    (λ none registers all is.
    no_items_at natural IsByte c.deref-item-items.result.now c.loop-item.item-index c.item-item.result (omega (arith, c.loop-item-test.true)) c.item-item.is none registers all
    (ap items_view c.deref-item-items.ensures.value ∙ items_found _ c.as_array.result items (map natural registers) c.as_array.ensures found is))

pub loop-item-preserved : goal.loop-item-preserved
loop-item-preserved c =
    let is = c.in_ok-byte_of.ensures in
    record {
      read = map_more natural view c.loop-item.registers.items c.push.new.self.items c.in_ok-byte_of.field-0 c.deref-item-items.result.now c.loop-item.item-index c.item-item.result c.loop-item-test.true c.item-item.is is.ok c.loop-item.invariant.read c.in_ok-push.ensures.items;
      in_range = All-same IsByte c.push.new.self.items (c.loop-item.registers.items ++ c.in_ok-byte_of.field-0 ∷ []) c.in_ok-push.ensures.items (All-push IsByte c.loop-item.registers.items c.in_ok-byte_of.field-0 c.loop-item.invariant.in_range is.in_range);
    }
