use Rattle.serde_json.specs.View.{view}
use Rattle.tmem_forms.proofs.Laws.{NoTx, passed_on}
use Rattle.tmem_forms.specs.TxForms.{IsShort, natural}
use Rattle.tmem_requests.specs.Forms.{PairFits, pair_form}
use Rattle.tmem_requests.specs.Requests.{IsSettle}
use Rattle.tmem_requests.specs.declared.proposal.Proposal.{Proposal}
use Rattle.tmem_requests.proofs.Asked.{NoAsk, no_do, no_try, no_get, no_settle, no_changed}
use Rattle.tmem_requests.proofs.Reading.{NoItems}
use Rattle.tmem_requests.proofs.ask.ask_of.Goals as goal

pub returns-in_err-tx_of-in-do-clause-refused : goal.returns-in_err-tx_of-in-do-clause-refused
returns-in_err-tx_of-in-do-clause-refused c =
    passed_on (NoTx (view c.args.body.now)) (NoAsk c.args.key.now (view c.args.body.now) (view c.args.whole.now))
    c.from_residual.result c.in_err-tx_of-in-do.field-0.0 c.from_residual.ensures.1 c.in_err-tx_of-in-do.ensures.refused
    (no_do c.args.key.now (view c.args.body.now) (view c.args.whole.now) c.in-do.is)

pub returns-in_err-tx_of-in-try-clause-refused : goal.returns-in_err-tx_of-in-try-clause-refused
returns-in_err-tx_of-in-try-clause-refused c =
    passed_on (NoTx (view c.args.body.now)) (NoAsk c.args.key.now (view c.args.body.now) (view c.args.whole.now))
    c.from_residual-in_err-tx_of-in-try.result c.in_err-tx_of-in-try.field-0.0 c.from_residual-in_err-tx_of-in-try.ensures.1 c.in_err-tx_of-in-try.ensures.refused
    (no_try c.args.key.now (view c.args.body.now) (view c.args.whole.now) c.in-try.is)

pub returns-in_err-list_of-in-get-clause-refused : goal.returns-in_err-list_of-in-get-clause-refused
returns-in_err-list_of-in-get-clause-refused c =
    passed_on (NoItems natural IsShort (view c.args.body.now)) (NoAsk c.args.key.now (view c.args.body.now) (view c.args.whole.now))
    c.from_residual-in_err-list_of-in-get.result c.in_err-list_of-in-get.field-0.0 c.from_residual-in_err-list_of-in-get.ensures.1 c.in_err-list_of-in-get.ensures.refused
    (λ none. no_get c.args.key.now (view c.args.body.now) (view c.args.whole.now) c.in-get.is (λ vars is. none vars is.fit is.form))

pub returns-in_err-proposal_of-in-settle-clause-refused : goal.returns-in_err-proposal_of-in-settle-clause-refused
returns-in_err-proposal_of-in-settle-clause-refused c =
    passed_on ((proposal : Proposal) → ¬ IsSettle proposal (view c.args.body.now)) (NoAsk c.args.key.now (view c.args.body.now) (view c.args.whole.now))
    c.from_residual-in_err-proposal_of-in-settle.result c.in_err-proposal_of-in-settle.field-0.0 c.from_residual-in_err-proposal_of-in-settle.ensures.1 c.in_err-proposal_of-in-settle.ensures.refused
    (no_settle c.args.key.now (view c.args.body.now) (view c.args.whole.now) c.in-settle.is)

pub returns-in_err-list_of-in-changed-clause-refused : goal.returns-in_err-list_of-in-changed-clause-refused
returns-in_err-list_of-in-changed-clause-refused c =
    passed_on (NoItems pair_form PairFits (view c.args.body.now)) (NoAsk c.args.key.now (view c.args.body.now) (view c.args.whole.now))
    c.from_residual-in_err-list_of-in-changed.result c.in_err-list_of-in-changed.field-0.0 c.from_residual-in_err-list_of-in-changed.ensures.1 c.in_err-list_of-in-changed.ensures.refused
    (λ none. no_changed c.args.key.now (view c.args.body.now) (view c.args.whole.now) c.in-changed.is (λ reads is. none reads is.fit is.form))
