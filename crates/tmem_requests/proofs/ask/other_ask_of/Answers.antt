use Rattle.std.proofs.Common.{◌≡◌, ℕ, ℤ, List, FitsSigned, w64, codes}
use Rattle.serde_json.specs.Data.{string}
use Rattle.serde_json.specs.View.{view}
use Rattle.tmem_fault.specs.Name.{IsName}
use Rattle.tmem_forms.proofs.Laws.{passed_on}
use Rattle.tmem_forms.specs.TxForms.{integer}
use Rattle.tmem_tree.specs.declared.tx.Tx.{Tx}
use Rattle.tmem_requests.specs.Forms.{IsKept, list_at}
use Rattle.tmem_requests.proofs.Asked.{NoAsk, no_cancel, no_keep, no_run, no_run_with, no_other}
use Rattle.tmem_requests.proofs.Reading.{NoItem, NoItems}
use Rattle.tmem_requests.proofs.ask.other_ask_of.Goals as goal

pub returns-in_err-integer_of-in-cancel-clause-refused : goal.returns-in_err-integer_of-in-cancel-clause-refused
returns-in_err-integer_of-in-cancel-clause-refused c =
    passed_on ((id : ℤ) → FitsSigned w64 id → ¬ ((view c.args.body.now) ≡ integer id)) (NoAsk c.args.key.now (view c.args.body.now) (view c.args.whole.now))
    c.from_residual.result c.in_err-integer_of-in-cancel.field-0.0 c.from_residual.ensures.1 c.in_err-integer_of-in-cancel.ensures.refused
    (λ none. no_cancel c.args.key.now (view c.args.body.now) (view c.args.whole.now) c.in-cancel.is (λ id is. none id is.fits is.form))

pub returns-in_err-word-in-keep-clause-refused : goal.returns-in_err-word-in-keep-clause-refused
returns-in_err-word-in-keep-clause-refused c =
    passed_on ((word : List ℕ) (tx : Tx) → ¬ IsKept word tx (view c.args.body.now)) (NoAsk c.args.key.now (view c.args.body.now) (view c.args.whole.now))
    c.from_residual-in_err-word-in-keep.result c.in_err-word-in-keep.field-0.0 c.from_residual-in_err-word-in-keep.ensures.1 c.in_err-word-in-keep.ensures.refused
    (no_keep c.args.key.now (view c.args.body.now) (view c.args.whole.now) c.in-keep.is)

pub returns-in_err-word-in-run-clause-refused : goal.returns-in_err-word-in-run-clause-refused
returns-in_err-word-in-run-clause-refused c =
    passed_on (NoItem string IsName (view c.args.body.now)) (NoAsk c.args.key.now (view c.args.body.now) (view c.args.whole.now))
    c.from_residual-in_err-word-in-run.result c.in_err-word-in-run.field-0.0 c.from_residual-in_err-word-in-run.ensures.1 c.in_err-word-in-run.ensures.refused
    (λ none. no_run c.args.key.now (view c.args.body.now) (view c.args.whole.now) c.in-run.is (λ word is. none word is.is_name is.form))

pub returns-in_err-numbers-in-run-clause-refused : goal.returns-in_err-numbers-in-run-clause-refused
returns-in_err-numbers-in-run-clause-refused c =
    passed_on (NoItems integer (λ n. FitsSigned w64 n) (list_at (codes "numbers") (view c.args.whole.now))) (NoAsk c.args.key.now (view c.args.body.now) (view c.args.whole.now))
    c.from_residual-in_err-numbers-in-run.result c.in_err-numbers-in-run.field-0.0 c.from_residual-in_err-numbers-in-run.ensures.1 c.in_err-numbers-in-run.ensures.refused
    (λ none. no_run_with c.args.key.now (view c.args.body.now) (view c.args.whole.now) c.in-run.is (λ numbers is. none numbers is.fit is.form))

pub returns-in_default-clause-refused : goal.returns-in_default-clause-refused
returns-in_default-clause-refused c =
    let other = c.in_default in
    no_other c.args.key.now (view c.args.body.now) (view c.args.whole.now) c.requires.no_do c.requires.no_try c.requires.no_get c.requires.no_settle c.requires.no_changed other.not-cancel other.not-keep other.not-run other.not-ask
