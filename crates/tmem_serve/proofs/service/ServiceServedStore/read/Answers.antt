use Rattle.std.proofs.Common.{◌≡◌, ℕ, List, Result, Ok, Err, IsOk, IfErr, refl, sym, subst}
use Rattle.std.specs.Result.{IsErrAnd}
use Rattle.std.proofs.lemmas.Bool.{false≢true}
use Rattle.tmem_requests.specs.Fits.{FitsStore}
use Rattle.tmem_requests.specs.Reasons.{IsReason}
use Rattle.tmem_requests.specs.declared.refusal.NoRequest.{NoRequest}
use Rattle.tmem_requests.specs.declared.refusal.RequestError.{RequestError}
use Rattle.tmem_requests.specs.declared.request.RequestBody.{RequestBody}
use Rattle.tmem_requests.proofs.Laws.{fits_too, reason_of_misfit, reason_of_value}
use Rattle.tmem_serve.proofs.service.ServiceServedStore.read.Goals as goal

-- what is asked of the numbers and names that it has is asked of those of the store
same_store : (asks : RequestBody) (vars vars' : ℕ) (names names' always always' : List (List ℕ)) → vars ≡ vars' → names ≡ names' → always ≡ always' → FitsStore vars names always asks → FitsStore vars' names' always' asks
same_store asks vars vars' names names' always always' over named kept fits =
    subst (λ (l : List (List ℕ)). FitsStore vars' names' l asks) kept (subst (λ (l : List (List ℕ)). FitsStore vars' l always asks) named (subst (λ (n : ℕ). FitsStore n names always asks) over fits))

-- and so it is with what is told
same_reason : (line : List ℕ) (refusal : NoRequest) (vars vars' : ℕ) (names names' always always' : List (List ℕ)) → vars ≡ vars' → names ≡ names' → always ≡ always' → IsReason vars names always line refusal → IsReason vars' names' always' line refusal
same_reason line refusal vars vars' names names' always always' over named kept is =
    subst (λ (l : List (List ℕ)). IsReason vars' names' l line refusal) kept (subst (λ (l : List (List ℕ)). IsReason vars' l always line refusal) named (subst (λ (n : ℕ). IsReason n names always line refusal) over is))

pub returns-in-Ok-clause-request : goal.returns-in-Ok-clause-request
returns-in-Ok-clause-request g c = (
  c.in_ok-request.ensures.request,
  same_store c.in_ok-request.request.ask _ _ _ _ _ _ c.args.self.now.over c.args.self.now.named c.args.self.now.kept (c.fits.ensures.fits.0 (subst IsOk (sym c.in-Ok.is) refl)),
)

pub returns-in-Err-clause-none : goal.returns-in-Err-clause-none
returns-in-Err-clause-none g c = λ none id asks is.
    let fits = fits_too _ _ _ c.args.text.now c.in_ok-request.request.id id c.in_ok-request.request.ask asks c.in_ok-request.ensures.request is.0 is.1 in
    let mine = same_store c.in_ok-request.request.ask _ _ _ _ _ _ (sym c.args.self.now.over) (sym c.args.self.now.named) (sym c.args.self.now.kept) fits in
    absurd (false≢true (subst IsOk c.in-Err.is (c.fits.ensures.fits.1 mine)))

-- an error that is passed on
passed_on : {X : Type 0} (r : Result X RequestError) (e : RequestError) (P : RequestError → Type 0) → IsErrAnd r (λ y. y ≡ e) → P e → IfErr r P
passed_on (Ok x) e P same here = tt
passed_on (Err y) e P same here = subst P (sym same) here

pub returns-in_err-request-clause-none : goal.returns-in_err-request-clause-none
returns-in_err-request-clause-none g c = passed_on c.from_residual.result c.in_err-request.field-0.0 _ c.from_residual.ensures.1 (λ none id asks is. c.in_err-request.ensures.no_request none id asks is.0)

pub returns-in-Err-clause-why : goal.returns-in-Err-clause-why
returns-in-Err-clause-why g c =
    same_reason c.args.text.now c.in-Err.refusal _ _ _ _ _ _ c.args.self.now.over c.args.self.now.named c.args.self.now.kept
    (reason_of_misfit _ _ _ c.args.text.now c.in_ok-request.request.id c.in_ok-request.request.ask c.in-Err.refusal c.in_ok-request.ensures.request c.in-Err.ensures.told)

pub returns-in_err-request-clause-why : goal.returns-in_err-request-clause-why
returns-in_err-request-clause-why g c =
    passed_on c.from_residual.result c.in_err-request.field-0.0 _ c.from_residual.ensures.1
    (reason_of_value _ _ _ c.args.text.now c.in_err-request.field-0.0 (λ value none utf8 reads. c.in_err-request.ensures.told value none utf8 reads) (λ none is. c.in_err-request.ensures.no_json none is))
