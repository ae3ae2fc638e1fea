use Rattle.std.proofs.Common.{◌≡◌, IfErr, codes, map, sym, ap, ◌∙◌, subst}
use Rattle.std.proofs.lemmas.Bool.{false≢true}
use Rattle.serde_json.specs.Data.{string}
use Rattle.tmem_forms.specs.TxForms.{array_of}
use Rattle.tmem_requests.specs.Forms.{pair_form}
use Rattle.tmem_requests.specs.Wrong.{IsTrueOf, store}
use Rattle.tmem_requests.proofs.Misfits.{at_its_key}
use Rattle.tmem_requests.proofs.Wrongs.{handed, nothing_told}
use Rattle.tmem_requests.proofs.explain.misfit.find_in_proposal.Goals as goal

pub returns-in_err-inside : goal.returns-in_err-inside
returns-in_err-inside c = λ d is.
    let scope = store c.args.vars c.args.names.now c.args.always.now in
    at_its_key pair_form (codes "reads") d c.args.proposal.now.reads.items (IfErr c.from_residual.result (λ w. IsTrueOf scope d w)) is.reads.form
    (λ v at same.
    let listed : array_of (map pair_form c.deref.result.now) ≡ v = ap (λ xs. array_of (map pair_form xs)) c.deref.ensures.value ∙ sym same in
    let found = subst (λ x. IfErr c.find_pair_beyond-reads.result (λ w. IsTrueOf scope x w)) listed (c.find_pair_beyond-reads.ensures.found c.args.names.now c.args.always.now) in
    handed (λ w. IsTrueOf scope d w) c.from_residual.result c.in_err-inside.field-0.0 c.from_residual.ensures.1 (c.in_err-inside.ensures.told scope d v at found))
    (λ empty. absurd (false≢true (c.in_err-inside.ensures.fine (c.find_pair_beyond-reads.ensures.none (c.deref.ensures.value ∙ empty)))))

pub returns-in_err-inside-2 : goal.returns-in_err-inside-2
returns-in_err-inside-2 c = λ d is.
    let scope = store c.args.vars c.args.names.now c.args.always.now in
    at_its_key pair_form (codes "writes") d c.args.proposal.now.writes.items (IfErr c.from_residual-in_err-inside-2.result (λ w. IsTrueOf scope d w)) is.writes.form
    (λ v at same.
    let listed : array_of (map pair_form c.deref-2.result.now) ≡ v = ap (λ xs. array_of (map pair_form xs)) c.deref-2.ensures.value ∙ sym same in
    let found = subst (λ x. IfErr c.find_pair_beyond-writes.result (λ w. IsTrueOf scope x w)) listed (c.find_pair_beyond-writes.ensures.found c.args.names.now c.args.always.now) in
    handed (λ w. IsTrueOf scope d w) c.from_residual-in_err-inside-2.result c.in_err-inside-2.field-0.0 c.from_residual-in_err-inside-2.ensures.1 (c.in_err-inside-2.ensures.told scope d v at found))
    (λ empty. absurd (false≢true (c.in_err-inside-2.ensures.fine (c.find_pair_beyond-writes.ensures.none (c.deref-2.ensures.value ∙ empty)))))

pub returns-in_err-inside-3 : goal.returns-in_err-inside-3
returns-in_err-inside-3 c = λ d is.
    let scope = store c.args.vars c.args.names.now c.args.always.now in
    at_its_key string (codes "check") d c.args.proposal.now.checks.items (IfErr c.from_residual-in_err-inside-3.result (λ w. IsTrueOf scope d w)) is.checks.form
    (λ v at same.
    let listed : array_of (map string c.deref-3.result.now) ≡ v = ap (λ xs. array_of (map string xs)) c.deref-3.ensures.value ∙ sym same in
    let found = subst (λ x. IfErr c.find_unknown-checks.result (λ w. IsTrueOf scope x w)) listed (c.find_unknown-checks.ensures.found c.args.vars c.args.always.now) in
    handed (λ w. IsTrueOf scope d w) c.from_residual-in_err-inside-3.result c.in_err-inside-3.field-0.0 c.from_residual-in_err-inside-3.ensures.1 (c.in_err-inside-3.ensures.told scope d v at found))
    (λ empty. absurd (false≢true (c.in_err-inside-3.ensures.fine (c.find_unknown-checks.ensures.none (c.deref-3.ensures.value ∙ empty)))))

pub returns : goal.returns
returns c = λ d is.
    let scope = store c.args.vars c.args.names.now c.args.always.now in
    at_its_key string (codes "retire") d c.args.proposal.now.retires.items (IfErr c.inside-4.result (λ w. IsTrueOf scope d w)) is.retires.form
    (λ v at same.
    let listed : array_of (map string c.deref-4.result.now) ≡ v = ap (λ xs. array_of (map string xs)) c.deref-4.ensures.value ∙ sym same in
    let found = subst (λ x. IfErr c.find_not_retired-retires.result (λ w. IsTrueOf scope x w)) listed (c.find_not_retired-retires.ensures.found c.args.vars) in
    c.inside-4.ensures.told scope d v at found)
    (λ empty. nothing_told c.inside-4.result (λ w. IsTrueOf scope d w) (c.inside-4.ensures.fine (c.find_not_retired-retires.ensures.none (c.deref-4.ensures.value ∙ empty))))
