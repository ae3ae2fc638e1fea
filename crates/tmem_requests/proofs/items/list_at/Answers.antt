use Rattle.std.proofs.Common.{◌≡◌, map, IfOk, IfErr, sym, subst}
use Rattle.serde_json.specs.Data.{Data}
use Rattle.serde_json.specs.View.{view}
use Rattle.tmem_forms.specs.Errors.{Refuses}
use Rattle.tmem_forms.specs.TxForms.{array_of}
use Rattle.tmem_requests.proofs.Reading.{NoItems, found_at, none_at, list_found, list_left_out}
use Rattle.tmem_requests.proofs.items.list_at.Goals as goal

pub returns-in-Some-clause-ok : goal.returns-in-Some-clause-ok
returns-in-Some-clause-ok g c =
    let found = found_at c.args.key.now (view c.args.value.now) c.get.result c.in-Some.list c.get.ensures c.in-Some.is in
    subst (λ (d : Data). IfOk c.list_of.result (λ items. d ≡ array_of (map g.T.Item.form items.items))) (sym (list_found c.args.key.now (view c.args.value.now) (view c.in-Some.list.now) found)) c.list_of.ensures.ok

pub returns-in-Some-clause-refused : goal.returns-in-Some-clause-refused
returns-in-Some-clause-refused g c =
    let found = found_at c.args.key.now (view c.args.value.now) c.get.result c.in-Some.list c.get.ensures c.in-Some.is in
    subst (λ (d : Data). IfErr c.list_of.result (λ e. Refuses e (NoItems g.T.Item.form g.T.Item.fits d))) (sym (list_found c.args.key.now (view c.args.value.now) (view c.in-Some.list.now) found)) c.list_of.ensures.refused

pub returns-in-None-clause-ok : goal.returns-in-None-clause-ok
returns-in-None-clause-ok g c =
    rw c.new.ensures.items (list_left_out c.args.key.now (view c.args.value.now) (none_at c.args.key.now (view c.args.value.now) c.get.result c.get.ensures c.in-None.is))
