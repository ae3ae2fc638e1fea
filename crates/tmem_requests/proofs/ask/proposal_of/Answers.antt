use Rattle.std.proofs.Common.{codes}
use Rattle.serde_json.specs.Data.{string}
use Rattle.serde_json.specs.View.{view}
use Rattle.tmem_fault.specs.Name.{IsName}
use Rattle.tmem_forms.proofs.Laws.{passed_on}
use Rattle.tmem_requests.specs.Forms.{PairFits, list_at, pair_form}
use Rattle.tmem_requests.specs.Requests.{IsSettle}
use Rattle.tmem_requests.specs.declared.proposal.Proposal.{Proposal}
use Rattle.tmem_requests.proofs.Reading.{NoItems, refused_for_none}
use Rattle.tmem_requests.proofs.Same.{proposal_is}
use Rattle.tmem_requests.proofs.ask.proposal_of.Goals as goal

pub returns-in_err-reads-clause-refused : goal.returns-in_err-reads-clause-refused
returns-in_err-reads-clause-refused c =
    passed_on (NoItems pair_form PairFits (list_at (codes "reads") (view c.args.body.now))) ((proposal : Proposal) → ¬ IsSettle proposal (view c.args.body.now))
    c.from_residual.result c.in_err-reads.field-0.0 c.from_residual.ensures.1 c.in_err-reads.ensures.refused
    (λ none proposal is. none proposal.reads.items is.reads.fit is.reads.form)

pub returns-in_err-writes-clause-refused : goal.returns-in_err-writes-clause-refused
returns-in_err-writes-clause-refused c =
    passed_on (NoItems pair_form PairFits (list_at (codes "writes") (view c.args.body.now))) ((proposal : Proposal) → ¬ IsSettle proposal (view c.args.body.now))
    c.from_residual-in_err-writes.result c.in_err-writes.field-0.0 c.from_residual-in_err-writes.ensures.1 c.in_err-writes.ensures.refused
    (λ none proposal is. none proposal.writes.items is.writes.fit is.writes.form)

pub returns-in_err-checks-clause-refused : goal.returns-in_err-checks-clause-refused
returns-in_err-checks-clause-refused c =
    passed_on (NoItems string IsName (list_at (codes "check") (view c.args.body.now))) ((proposal : Proposal) → ¬ IsSettle proposal (view c.args.body.now))
    c.from_residual-in_err-checks.result c.in_err-checks.field-0.0 c.from_residual-in_err-checks.ensures.1 c.in_err-checks.ensures.refused
    (λ none proposal is. none proposal.checks.items is.checks.are_names is.checks.form)

pub returns-in_err-retires-clause-refused : goal.returns-in_err-retires-clause-refused
returns-in_err-retires-clause-refused c =
    passed_on (NoItems string IsName (list_at (codes "retire") (view c.args.body.now))) ((proposal : Proposal) → ¬ IsSettle proposal (view c.args.body.now))
    c.from_residual-in_err-retires.result c.in_err-retires.field-0.0 c.from_residual-in_err-retires.ensures.1 c.in_err-retires.ensures.refused
    (λ none proposal is. none proposal.retires.items is.retires.are_names is.retires.form)

pub returns-clause-refused : goal.returns-clause-refused
returns-clause-refused c =
    let d = view c.args.body.now in
    refused_for_none c.new.result c.ok_or.result ((proposal : Proposal) → ¬ IsSettle proposal d) c.ok_or.ensures.value
    (λ none proposal is. c.new.ensures.none none
    (proposal_is proposal d c.in_ok-reads.reads.items c.in_ok-writes.writes.items c.in_ok-checks.checks.items c.in_ok-retires.retires.items is
    c.in_ok-reads.ensures.ok c.in_ok-writes.ensures.ok c.in_ok-checks.ensures.ok c.in_ok-retires.ensures.ok))
