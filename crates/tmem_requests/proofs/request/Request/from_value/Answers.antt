use Rattle.std.proofs.Common.{ℤ, codes, w64, sym, ◌∙◌, subst}
use Rattle.std.proofs.lemmas.Bool.{false≢true}
use Rattle.std.proofs.lemmas.Int.{to_z-of_z}
use Rattle.serde_json.specs.View.{view}
use Rattle.tmem_forms.proofs.Laws.{passed_on}
use Rattle.tmem_requests.specs.Forms.{HasMember, IsInteger}
use Rattle.tmem_requests.specs.Requests.{IsRequest}
use Rattle.tmem_requests.proofs.Asked.{NoAsk}
use Rattle.tmem_requests.proofs.Members.{NoRequestIn, no_request_unnumbered, no_request_with_more, no_request_of_none, request_of}
use Rattle.tmem_requests.proofs.request.Request.from_value.Goals as goal

pub returns-in_err-id-clause-refused : goal.returns-in_err-id-clause-refused
returns-in_err-id-clause-refused c =
    passed_on ((id : ℤ) → ¬ HasMember (codes "id") (IsInteger id) (view c.args.value.now)) (NoRequestIn (view c.args.value.now))
    c.from_residual.result c.in_err-id.field-0.0 c.from_residual.ensures.1 c.in_err-id.ensures.refused
    (no_request_unnumbered (view c.args.value.now))

pub returns-then-not-has_keys_by-clause-refused : goal.returns-then-not-has_keys_by-clause-refused
returns-then-not-has_keys_by-clause-refused c =
    no_request_with_more (view c.args.value.now) (view c.in-Some.body.now) c.in-Some.key.now c.in-Some.ensures.found c.in-Some.ensures.beside
    (λ only. false≢true (sym c.if-not-has_keys_by.true ∙ c.has_keys_by.ensures.1 only))

pub returns-in_err-ask-clause-refused : goal.returns-in_err-ask-clause-refused
returns-in_err-ask-clause-refused c =
    passed_on (NoAsk c.in-Some.key.now (view c.in-Some.body.now) (view c.args.value.now)) (NoRequestIn (view c.args.value.now))
    c.from_residual-in_err-ask.result c.in_err-ask.field-0.0 c.from_residual-in_err-ask.ensures.1 c.in_err-ask.ensures.refused
    (no_request_of_none (view c.args.value.now) (view c.in-Some.body.now) c.in-Some.key.now c.in-Some.ensures.found c.in-Some.ensures.beside)

pub returns-clause-ok : goal.returns-clause-ok
returns-clause-ok c =
    let d = view c.args.value.now in
    let numbered = c.in_ok-id.ensures.ok in
    subst (λ (id : ℤ). IsRequest id c.in_ok-ask.ask d) (sym (to_z-of_z w64 c.in_ok-id.id numbered.is.fits))
    (request_of d (view c.in-Some.body.now) c.in-Some.key.now c.in_ok-id.id c.in_ok-ask.ask c.in-Some.ensures.found
    (c.has_keys_by.ensures.0 c.if-not-has_keys_by.false) numbered c.in_ok-ask.ensures.ok)
