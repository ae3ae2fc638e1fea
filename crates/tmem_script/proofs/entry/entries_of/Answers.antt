use Rattle.std.proofs.Common.{◌≡◌, List, [], ◌∷◌, ◌++◌, map, All, sym, ap, ◌∙◌}
use Rattle.std.proofs.lemmas.List.{take_all}
use Rattle.std.proofs.lemmas.List.Elements.{All-push, All-same}
use Rattle.serde_json.specs.View.{view}
use Rattle.tmem_script.specs.Scripts.{IsEntry, EntryInRange, entry_form}
use Rattle.tmem_forms.specs.TxForms.{array_of}
use Rattle.tmem_script.specs.declared.script.ScriptEntry.{ScriptEntry}
use Rattle.tmem_forms.proofs.Laws.{passed_on, map_more, no_items_at, items_of_body, view_of_array}
use Rattle.tmem_script.proofs.NoArray.{not_array}
use Rattle.tmem_script.proofs.entry.entries_of.Goals as goal

pub returns-in_err-entry_of-clause-refused : goal.returns-in_err-entry_of-clause-refused
returns-in_err-entry_of-clause-refused c =
    let items = c.deref-item-items.result.now in
    passed_on ((entry : ScriptEntry) → ¬ IsEntry entry (view c.item-item.result)) ((entries : List ScriptEntry) → All EntryInRange entries → ¬ (view c.args.value.now ≡ array_of (map entry_form entries)))
    c.from_residual-in_err-entry_of.result c.in_err-entry_of.field-0.0 c.from_residual-in_err-entry_of.ensures.1 c.in_err-entry_of.ensures.refused
    (λ none entries all is.
    no_items_at entry_form EntryInRange items c.loop-item.item-index c.item-item.result c.loop-item-test.true c.item-item.is
    (λ entry fits form. none entry (record { form = form; in_range = fits })) entries all
    (items_of_body c.args.value.now c.in-Array.items items (map entry_form entries) c.in-Array.is c.deref-item-items.ensures.value is))

pub loop-item-preserved : goal.loop-item-preserved
loop-item-preserved c =
    let is = c.in_ok-entry_of.ensures.ok in
    record {
      read = map_more entry_form view c.loop-item.entries.items c.push.new.self.items c.in_ok-entry_of.field-0 c.deref-item-items.result.now c.loop-item.item-index c.item-item.result c.loop-item-test.true c.item-item.is is.form c.loop-item.invariant.read c.in_ok-push.ensures.items;
      in_range = All-same EntryInRange c.push.new.self.items (c.loop-item.entries.items ++ c.in_ok-entry_of.field-0 ∷ []) c.in_ok-push.ensures.items (All-push EntryInRange c.loop-item.entries.items c.in_ok-entry_of.field-0 c.loop-item.invariant.in_range is.in_range);
    }

pub returns-clause-ok : goal.returns-clause-ok
returns-clause-ok c =
    let items = c.deref-item-items.result.now in
    let read : map entry_form c.loop-item.entries.items ≡ map view items = c.loop-item.invariant.read ∙ ap (map view) (take_all c.loop-item.item-index items c.loop-item-test.false) in
    view_of_array c.args.value.now c.in-Array.items items c.in-Array.is c.deref-item-items.ensures.value ∙ ap array_of (sym read)

pub returns-in_default : goal.returns-in_default
returns-in_default c = record { ok = tt; in_range = tt; refused = λ entries all. not_array c.args.value.now (map entry_form entries) c.in_default.not-Array }
