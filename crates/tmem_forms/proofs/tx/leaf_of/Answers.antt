use Rattle.std.proofs.Common.{ℤ, sym, subst}
use Rattle.std.proofs.lemmas.Int.{to_z-of_z}
use Rattle.std.specs.Int.{w64}
use Rattle.serde_json.specs.View.{view}
use Rattle.tmem_tree.specs.declared.tx.Tx.TheVariants.{Put}
use Rattle.tmem_forms.specs.TxForms.{tagged, IsTx}
use Rattle.tmem_forms.proofs.Laws.{passed_on, NoTx}
use Rattle.tmem_forms.proofs.Levels.{NoPut, NoAccess, NoAbort, NoCheck, no_put, no_read, no_write, no_abort, no_check, no_retire, IsTx-Put, IsTx-Read, IsTx-Write, IsTx-Abort, IsTx-Check, IsTx-Retire, tagged_as}
use Rattle.tmem_forms.proofs.tx.leaf_of.Goals as goal

pub returns-in_err-reg-in-put-clause-refused : goal.returns-in_err-reg-in-put-clause-refused
returns-in_err-reg-in-put-clause-refused c =
    passed_on (NoPut (view c.args.body.now)) (NoTx (tagged c.args.key.now (view c.args.body.now))) c.from_residual.result c.in_err-reg-in-put.field-0.0 c.from_residual.ensures.1 c.in_err-reg-in-put.ensures.refused
    (no_put c.args.key.now (view c.args.body.now) c.in-put.is)

pub returns-in_err-var-in-read-clause-refused : goal.returns-in_err-var-in-read-clause-refused
returns-in_err-var-in-read-clause-refused c =
    passed_on (NoAccess (view c.args.body.now)) (NoTx (tagged c.args.key.now (view c.args.body.now))) c.from_residual-in_err-var-in-read.result c.in_err-var-in-read.field-0.0 c.from_residual-in_err-var-in-read.ensures.1 c.in_err-var-in-read.ensures.refused
    (no_read c.args.key.now (view c.args.body.now) c.in-read.is)

pub returns-in_err-var-in-write-clause-refused : goal.returns-in_err-var-in-write-clause-refused
returns-in_err-var-in-write-clause-refused c =
    passed_on (NoAccess (view c.args.body.now)) (NoTx (tagged c.args.key.now (view c.args.body.now))) c.from_residual-in_err-var-in-write.result c.in_err-var-in-write.field-0.0 c.from_residual-in_err-var-in-write.ensures.1 c.in_err-var-in-write.ensures.refused
    (no_write c.args.key.now (view c.args.body.now) c.in-write.is)

pub returns-in_err-code-in-abort-clause-refused : goal.returns-in_err-code-in-abort-clause-refused
returns-in_err-code-in-abort-clause-refused c =
    passed_on (NoAbort (view c.args.body.now)) (NoTx (tagged c.args.key.now (view c.args.body.now))) c.from_residual-in_err-code-in-abort.result c.in_err-code-in-abort.field-0.0 c.from_residual-in_err-code-in-abort.ensures.1 c.in_err-code-in-abort.ensures.refused
    (no_abort c.args.key.now (view c.args.body.now) c.in-abort.is)

pub returns-in_err-name-in-check-clause-refused : goal.returns-in_err-name-in-check-clause-refused
returns-in_err-name-in-check-clause-refused c =
    passed_on (NoCheck (view c.args.body.now)) (NoTx (tagged c.args.key.now (view c.args.body.now))) c.from_residual-in_err-name-in-check.result c.in_err-name-in-check.field-0.0 c.from_residual-in_err-name-in-check.ensures.1 c.in_err-name-in-check.ensures.refused
    (no_check c.args.key.now (view c.args.body.now) c.in-check.is)

pub returns-in_err-name-in-retire-clause-refused : goal.returns-in_err-name-in-retire-clause-refused
returns-in_err-name-in-retire-clause-refused c =
    passed_on (NoCheck (view c.args.body.now)) (NoTx (tagged c.args.key.now (view c.args.body.now))) c.from_residual-in_err-name-in-retire.result c.in_err-name-in-retire.field-0.0 c.from_residual-in_err-name-in-retire.ensures.1 c.in_err-name-in-retire.ensures.refused
    (no_retire c.args.key.now (view c.args.body.now) c.in-retire.is)

pub returns-in_ok-reg-in-put-clause-ok : goal.returns-in_ok-reg-in-put-clause-ok
returns-in_ok-reg-in-put-clause-ok c =
    let e = c.in_ok-reg-in-put.ensures in
    let n = c.in_ok-reg-in-put.number in
    let is = tagged_as _ _ _ _ _ c.in-put.is e.ok (IsTx-Put _ n e.in_range.0 e.in_range.1) in
    subst (λ (m : ℤ). IsTx (Put c.in_ok-reg-in-put.reg m) (tagged c.args.key.now (view c.args.body.now))) (sym (to_z-of_z w64 n e.in_range.1)) is

pub returns-in_ok-var-in-read-clause-ok : goal.returns-in_ok-var-in-read-clause-ok
returns-in_ok-var-in-read-clause-ok c =
    let e = c.in_ok-var-in-read.ensures in
    tagged_as _ _ _ _ _ c.in-read.is e.ok (IsTx-Read _ _ e.in_range.0 e.in_range.1)

pub returns-in_ok-var-in-write-clause-ok : goal.returns-in_ok-var-in-write-clause-ok
returns-in_ok-var-in-write-clause-ok c =
    let e = c.in_ok-var-in-write.ensures in
    tagged_as _ _ _ _ _ c.in-write.is e.ok (IsTx-Write _ _ e.in_range.0 e.in_range.1)

pub returns-in_ok-code-in-abort-clause-ok : goal.returns-in_ok-code-in-abort-clause-ok
returns-in_ok-code-in-abort-clause-ok c =
    let e = c.in_ok-code-in-abort.ensures in
    tagged_as _ _ _ _ _ c.in-abort.is e.ok (IsTx-Abort _ e.in_range)

pub returns-in_ok-name-in-check-clause-ok : goal.returns-in_ok-name-in-check-clause-ok
returns-in_ok-name-in-check-clause-ok c =
    let e = c.in_ok-name-in-check.ensures in
    tagged_as _ _ _ _ _ c.in-check.is e.ok.0 (IsTx-Check _ e.ok.1)

pub returns-in_ok-name-in-retire-clause-ok : goal.returns-in_ok-name-in-retire-clause-ok
returns-in_ok-name-in-retire-clause-ok c =
    let e = c.in_ok-name-in-retire.ensures in
    tagged_as _ _ _ _ _ c.in-retire.is e.ok.0 (IsTx-Retire _ e.ok.1)
