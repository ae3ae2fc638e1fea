use Rattle.std.proofs.Common.{◌≡◌, ◌∷◌, [], IfErr, map, refl, sym, ap, ◌∙◌, subst}
use Rattle.serde_json.specs.Data.{Data, string}
use Rattle.tmem_forms.specs.TxForms.{IsTx, array_of, natural, tx_form}
use Rattle.tmem_requests.specs.Forms.{ArePairs, AreVariables, IsKept, pair_form}
use Rattle.tmem_requests.specs.Wrong.{IsTrueOf, store}
use Rattle.tmem_requests.specs.declared.request.RequestBody.TheVariants.{Do, Try, Get, Changed, Keep}
use Rattle.tmem_requests.proofs.Misfits.{asked_as}
use Rattle.tmem_requests.proofs.explain.misfit.find_misfit.Goals as goal

pub returns-in-Do : goal.returns-in-Do
returns-in-Do c = λ id d is.
    let scope = store c.args.vars c.args.names.now c.args.always.now in
    let asked = asked_as id d c.args.ask.now (Do c.in-Do.tx) c.in-Do.is is in
    let tx : IsTx c.in-Do.tx asked.value = asked.is in
    c.inside.ensures.told scope d asked.value asked.stands
    (subst (λ v. IfErr c.find_retired.result (λ w. IsTrueOf scope v w)) (sym tx.form) (c.find_retired.ensures c.args.vars c.args.names.now))

pub returns-in-Try : goal.returns-in-Try
returns-in-Try c = λ id d is.
    let scope = store c.args.vars c.args.names.now c.args.always.now in
    let asked = asked_as id d c.args.ask.now (Try c.in-Try.tx) c.in-Try.is is in
    let tx : IsTx c.in-Try.tx asked.value = asked.is in
    c.inside-in-Try.ensures.told scope d asked.value asked.stands
    (subst (λ v. IfErr c.find_retired-in-Try.result (λ w. IsTrueOf scope v w)) (sym tx.form) (c.find_retired-in-Try.ensures c.args.vars c.args.names.now))

pub returns-in-Keep : goal.returns-in-Keep
returns-in-Keep c = λ id d is.
    let scope = store c.args.vars c.args.names.now c.args.always.now in
    let asked = asked_as id d c.args.ask.now (Keep c.in-Keep.field-0 c.in-Keep.tx) c.in-Keep.is is in
    let kept : IsKept c.in-Keep.field-0 c.in-Keep.tx asked.value = asked.is in
    let held : Data = array_of (string c.in-Keep.field-0 ∷ tx_form c.in-Keep.tx ∷ []) in
    let found : IfErr c.inside-found.result (λ w. IsTrueOf scope held w) =
    c.inside-found.ensures.told scope held (tx_form c.in-Keep.tx) refl (c.find_retired-in-Keep.ensures c.args.vars c.args.names.now) in
    c.inside-in-Keep.ensures.told scope d asked.value asked.stands (subst (λ v. IfErr c.inside-found.result (λ w. IsTrueOf scope v w)) (sym kept.form) found)

pub returns-in-Get : goal.returns-in-Get
returns-in-Get c = λ id d is.
    let scope = store c.args.vars c.args.names.now c.args.always.now in
    let asked = asked_as id d c.args.ask.now (Get c.in-Get.all) c.in-Get.is is in
    let all : AreVariables c.in-Get.all.items asked.value = asked.is in
    let listed : array_of (map natural c.deref.result.now) ≡ asked.value = ap (λ xs. array_of (map natural xs)) c.deref.ensures.value ∙ sym all.form in
    c.inside-in-Get.ensures.told scope d asked.value asked.stands
    (subst (λ v. IfErr c.find_beyond.result (λ w. IsTrueOf scope v w)) listed (c.find_beyond.ensures c.args.names.now c.args.always.now))

pub returns-in-Changed : goal.returns-in-Changed
returns-in-Changed c = λ id d is.
    let scope = store c.args.vars c.args.names.now c.args.always.now in
    let asked = asked_as id d c.args.ask.now (Changed c.in-Changed.reads) c.in-Changed.is is in
    let all : ArePairs c.in-Changed.reads.items asked.value = asked.is in
    let listed : array_of (map pair_form c.deref-in-Changed.result.now) ≡ asked.value = ap (λ xs. array_of (map pair_form xs)) c.deref-in-Changed.ensures.value ∙ sym all.form in
    c.inside-in-Changed.ensures.told scope d asked.value asked.stands
    (subst (λ v. IfErr c.find_pair_beyond.result (λ w. IsTrueOf scope v w)) listed (c.find_pair_beyond.ensures.found c.args.names.now c.args.always.now))
