use Rattle.std.proofs.Common.{codes, sym, ◌∙◌}
use Rattle.serde_json.specs.View.{view}
use Rattle.tmem_forms.specs.TxForms.{tagged}
use Rattle.tmem_forms.proofs.Laws.{NoTx, passed_on, two_same}
use Rattle.tmem_script.proofs.EventForms.{NoEvent, no_begin}
use Rattle.tmem_script.proofs.event.begin_of.Goals as goal

pub returns-in_err-tx-clause-refused : goal.returns-in_err-tx-clause-refused
returns-in_err-tx-clause-refused c =
    passed_on (NoTx (view c.in_ok-first.second.now)) (NoEvent (tagged (codes "begin") (view c.args.body.now)))
    c.from_residual-in_err-tx.result c.in_err-tx.field-0.0 c.from_residual-in_err-tx.ensures.1 c.in_err-tx.ensures.refused
    (λ none. no_begin (view c.args.body.now) (λ slot tx fits is.
    none tx (record { form = (two_same _ _ _ _ (sym c.in_ok-first.ensures.ok ∙ is)).1; in_range = fits })))
