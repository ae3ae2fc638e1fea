use Rattle.std.proofs.Common.{ℕ, List, sym, ◌∙◌}
use Rattle.serde_json.specs.Data.{string}
use Rattle.serde_json.specs.View.{view}
use Rattle.tmem_fault.specs.Name.{IsName}
use Rattle.tmem_forms.proofs.Laws.{NoTx, passed_on, two_same}
use Rattle.tmem_tree.specs.declared.tx.Tx.{Tx}
use Rattle.tmem_requests.specs.Forms.{IsKept}
use Rattle.tmem_requests.proofs.Reading.{NoItem}
use Rattle.tmem_requests.proofs.ask.kept_of.Goals as goal

pub returns-in_err-word-clause-refused : goal.returns-in_err-word-clause-refused
returns-in_err-word-clause-refused c =
    passed_on (NoItem string IsName (view c.in_ok-first.first.now)) ((word : List ℕ) (tx : Tx) → ¬ IsKept word tx (view c.args.body.now))
    c.from_residual-in_err-word.result c.in_err-word.field-0.0 c.from_residual-in_err-word.ensures.1 c.in_err-word.ensures.refused
    (λ none word tx is. none word is.is_name (two_same _ _ _ _ (sym c.in_ok-first.ensures.ok ∙ is.form)).0)

pub returns-in_err-tx-clause-refused : goal.returns-in_err-tx-clause-refused
returns-in_err-tx-clause-refused c =
    passed_on (NoTx (view c.in_ok-first.second.now)) ((word : List ℕ) (tx : Tx) → ¬ IsKept word tx (view c.args.body.now))
    c.from_residual-in_err-tx.result c.in_err-tx.field-0.0 c.from_residual-in_err-tx.ensures.1 c.in_err-tx.ensures.refused
    (λ none word tx is. none tx (record { form = (two_same _ _ _ _ (sym c.in_ok-first.ensures.ok ∙ is.form)).1; in_range = is.in_range }))
