use Rattle.std.proofs.Common.{sym, ◌∙◌, subst}
use Rattle.serde_json.specs.View.{view}
use Rattle.tmem_requests.proofs.Members.{same_value}
use Rattle.tmem_requests.proofs.Reading.{no_value}
use Rattle.tmem_requests.proofs.Unread.{unread_no_json, unread_no_request, unread_told}
use Rattle.tmem_requests.specs.Wrong.{TellsTruth, whole}
use Rattle.tmem_requests.proofs.request.Request.read.Goals as goal

pub returns-clause-no_request : goal.returns-clause-no_request
returns-clause-no_request c = λ is.
    no_value c.args.line.now (view c.in_ok-value.value) c.in_ok-value.ensures.ok.1 (rw c.in-Err-NoForm.field-0-is at c.in-Err-NoForm.ensures.refused)

pub returns-clause-told : goal.returns-clause-told
returns-clause-told c = λ d is utf8 reads.
    subst (λ v. TellsTruth whole v c.explained.result) (same_value (view c.in_ok-value.value) d (sym c.in_ok-value.ensures.ok.1 ∙ reads)) c.explained.ensures

pub returns-in_err-value-clause-no_json : goal.returns-in_err-value-clause-no_json
returns-in_err-value-clause-no_json c = unread_no_json c.args.line.now c.in_err-value.field-0.0 c.from_residual.result c.from_residual.ensures.1

pub returns-in_err-value-clause-no_request : goal.returns-in_err-value-clause-no_request
returns-in_err-value-clause-no_request c = unread_no_request c.args.line.now c.in_err-value.field-0.0 c.from_residual.result c.from_residual.ensures.1 c.in_err-value.ensures.err

pub returns-in_err-value-clause-told : goal.returns-in_err-value-clause-told
returns-in_err-value-clause-told c = unread_told c.args.line.now c.in_err-value.field-0.0 c.from_residual.result c.from_residual.ensures.1 c.in_err-value.ensures.err
