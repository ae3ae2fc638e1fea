use Rattle.std.proofs.Common.{◌≡◌, ◌+◌, ◌<◌, ℕ, List, [], ◌∷◌, ◌++◌, length, get_or, take, map, ap, ◌∙◌, sym}
use Rattle.std.proofs.lemmas.List.{map-append, take_all, take_more}
use Rattle.serde_json.specs.Data.{Data}
use Rattle.serde_json.specs.View.{view}
use Rattle.serde_json.specs.declared.value.Value.{Value}
use Rattle.tmem_forms.proofs.Laws.{items_of_body, no_items_at, passed_on, view_of_array}
use Rattle.tmem_forms.specs.TxForms.{array_of}
use Rattle.tmem_requests.proofs.Reading.{NoItem, NoItems}
use Rattle.tmem_requests.proofs.items.list_of.Goals as goal

pub returns-in_err-push_read-clause-refused : goal.returns-in_err-push_read-clause-refused
returns-in_err-push_read-clause-refused g c =
    let items = c.deref-item-items.result.now in
    passed_on (NoItem g.T.Item.form g.T.Item.fits (view c.item-item.result)) (NoItems g.T.Item.form g.T.Item.fits (view c.args.value.now))
    c.from_residual-in_err-push_read.result c.in_err-push_read.field-0.0 c.from_residual-in_err-push_read.ensures.1 c.in_err-push_read.ensures.refused
    (λ none xs all is.
    no_items_at g.T.Item.form g.T.Item.fits items c.loop-item.item-index c.item-item.result c.loop-item-test.true c.item-item.is none xs all
    (items_of_body c.args.value.now c.in-Array.values items (map g.T.Item.form xs) c.in-Array.is c.deref-item-items.ensures.value is))

pub returns-clause-ok : goal.returns-clause-ok
returns-clause-ok g c =
    let items = c.deref-item-items.result.now in
    let read : map g.T.Item.form c.loop-item.items.items ≡ map view items = c.loop-item.invariant.read ∙ ap (map view) (take_all c.loop-item.item-index items c.loop-item-test.false) in
    view_of_array c.args.value.now c.in-Array.values items c.in-Array.is c.deref-item-items.ensures.value ∙ ap array_of (sym read)

-- one item more
read_more : {X : Type 0} (form : X → Data) (xs ys : List X) (vs : List Value) (i : ℕ) (v : Value) → i < length vs → v ≡ get_or vs i v → map form xs ≡ map view (take i vs) → map form ys ≡ map form xs ++ view v ∷ []
    → map form ys ≡ map view (take (i + 1) vs)
read_more form xs ys vs i v within at read more =
    more ∙ ap (λ (ds : List Data). ds ++ view v ∷ []) read
    ∙ sym (ap (map view) (take_more vs i v within) ∙ map-append view (take i vs) (get_or vs i v ∷ []) ∙ ap (λ (w : Value). map view (take i vs) ++ view w ∷ []) (sym at))

pub loop-item-preserved : goal.loop-item-preserved
loop-item-preserved g c = record {
  read = read_more g.T.Item.form c.loop-item.items.items c.push_read.new.items.items c.deref-item-items.result.now c.loop-item.item-index c.item-item.result c.loop-item-test.true c.item-item.is
      c.loop-item.invariant.read c.in_ok-push_read.ensures.ok;
  in_range = c.in_ok-push_read.ensures.in_range c.loop-item.invariant.in_range;
}
