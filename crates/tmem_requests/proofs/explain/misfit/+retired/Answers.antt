use Rattle.std.proofs.Common.{◌≡◌, ◌∷◌, [], IfErr, map, codes, refl, sym, ap, ◌∙◌, subst, arith, rules}
use Rattle.serde_json.specs.Data.{Data, string}
use Rattle.tmem_forms.specs.TxForms.{array_of, natural, tagged, tx_form}
use Rattle.tmem_tree.specs.declared.tx.Tx.TheFolds as folds
use Rattle.tmem_requests.specs.Wrong.{IsTrueOf, store}
use Rattle.tmem_requests.proofs.Misfits.{form_of_or_else, form_of_retire, form_of_seq, form_of_when, form_there}
use Rattle.tmem_requests.proofs.Wrongs.{handed}
use Rattle.tmem_requests.proofs.explain.misfit.+retired.Goals as goal

pub find_retired-returns-in_err-inside-in-When :
    goal.find_retired-returns-in_err-inside-in-When
find_retired-returns-in_err-inside-in-When t c = λ vars names.
    let scope = store vars names c.args.always.now in
    let held : Data = array_of (natural c.in-When.reg ∷ tx_form c.in-When.then.value ∷ tx_form c.in-When.other.value ∷ []) in
    let form : tx_form c.args.tx.now ≡ tagged (codes "when") held = ap tx_form c.in-When.is ∙ form_of_when c.in-When.reg c.in-When.then c.in-When.other in
    let found = subst (λ tx. IfErr c.find_retired.result (λ w. IsTrueOf scope (tx_form tx) w)) c.deref-in-When.ensures (c.find_retired.ensures vars names) in
    let item : IfErr c.inside-first.result (λ w. IsTrueOf scope held w) = c.inside-first.ensures.told scope held (tx_form c.in-When.then.value) refl found in
    handed (λ w. IsTrueOf scope (tx_form c.args.tx.now) w) c.from_residual.result c.in_err-inside-in-When.field-0.0 c.from_residual.ensures.1
    (subst (λ d. IsTrueOf scope d c.in_err-inside-in-When.field-0.0) (sym form) (c.in_err-inside-in-When.ensures.told scope (tagged (codes "when") held) held refl item))

pub find_retired-returns-in_err-inside-in-OrElse :
    goal.find_retired-returns-in_err-inside-in-OrElse
find_retired-returns-in_err-inside-in-OrElse t c = λ vars names.
    let scope = store vars names c.args.always.now in
    let held : Data = array_of (tx_form c.in-OrElse.first.value ∷ tx_form c.in-OrElse.second.value ∷ []) in
    let form : tx_form c.args.tx.now ≡ tagged (codes "orelse") held = ap tx_form c.in-OrElse.is ∙ form_of_or_else c.in-OrElse.first c.in-OrElse.second in
    let found = subst (λ tx. IfErr c.find_retired-in-OrElse.result (λ w. IsTrueOf scope (tx_form tx) w)) c.deref-in-OrElse.ensures (c.find_retired-in-OrElse.ensures vars names) in
    let item : IfErr c.inside-first-in-OrElse.result (λ w. IsTrueOf scope held w) = c.inside-first-in-OrElse.ensures.told scope held (tx_form c.in-OrElse.first.value) refl found in
    handed (λ w. IsTrueOf scope (tx_form c.args.tx.now) w) c.from_residual-in_err-inside-in-OrElse.result c.in_err-inside-in-OrElse.field-0.0 c.from_residual-in_err-inside-in-OrElse.ensures.1
    (subst (λ d. IsTrueOf scope d c.in_err-inside-in-OrElse.field-0.0) (sym form) (c.in_err-inside-in-OrElse.ensures.told scope (tagged (codes "orelse") held) held refl item))

pub find_retired-returns-in-Retire : goal.find_retired-returns-in-Retire
find_retired-returns-in-Retire t c = λ vars names.
    let scope = store vars names c.args.always.now in
    let form : tx_form c.args.tx.now ≡ tagged (codes "retire") (string c.in-Retire.name) = ap tx_form c.in-Retire.is ∙ form_of_retire c.in-Retire.name in
    subst (λ d. IfErr c.inside.result (λ w. IsTrueOf scope d w)) (sym form)
    (c.inside.ensures.told scope (tagged (codes "retire") (string c.in-Retire.name)) (string c.in-Retire.name) refl (c.find_always.ensures vars names))

pub find_retired-returns-in-Seq : goal.find_retired-returns-in-Seq
find_retired-returns-in-Seq t c = λ vars names.
    let scope = store vars names c.args.always.now in
    let held : Data = array_of (map tx_form c.in-Seq.txs.items) in
    let form : tx_form c.args.tx.now ≡ tagged (codes "seq") held = ap tx_form c.in-Seq.is ∙ form_of_seq c.in-Seq.txs in
    let found = subst (λ txs. IfErr c.find_retired_in.result (λ w. IsTrueOf scope (array_of (map tx_form txs)) w)) c.deref.ensures.value (c.find_retired_in.ensures vars names) in
    subst (λ d. IfErr c.inside-in-Seq.result (λ w. IsTrueOf scope d w)) (sym form)
    (c.inside-in-Seq.ensures.told scope (tagged (codes "seq") held) held refl found)

pub find_retired-returns-in_ok-inside-in-When :
    goal.find_retired-returns-in_ok-inside-in-When
find_retired-returns-in_ok-inside-in-When t c = λ vars names.
    let scope = store vars names c.args.always.now in
    let held : Data = array_of (natural c.in-When.reg ∷ tx_form c.in-When.then.value ∷ tx_form c.in-When.other.value ∷ []) in
    let form : tx_form c.args.tx.now ≡ tagged (codes "when") held = ap tx_form c.in-When.is ∙ form_of_when c.in-When.reg c.in-When.then c.in-When.other in
    let found = subst (λ tx. IfErr c.find_retired-in-When.result (λ w. IsTrueOf scope (tx_form tx) w)) c.deref-in-When-2.ensures (c.find_retired-in-When.ensures vars names) in
    let item : IfErr c.inside-second.result (λ w. IsTrueOf scope held w) = c.inside-second.ensures.told scope held (tx_form c.in-When.other.value) refl found in
    subst (λ d. IfErr c.inside-in-When-2.result (λ w. IsTrueOf scope d w)) (sym form)
    (c.inside-in-When-2.ensures.told scope (tagged (codes "when") held) held refl item)

pub find_retired-returns-in_ok-inside-in-OrElse :
    goal.find_retired-returns-in_ok-inside-in-OrElse
find_retired-returns-in_ok-inside-in-OrElse t c = λ vars names.
    let scope = store vars names c.args.always.now in
    let held : Data = array_of (tx_form c.in-OrElse.first.value ∷ tx_form c.in-OrElse.second.value ∷ []) in
    let form : tx_form c.args.tx.now ≡ tagged (codes "orelse") held = ap tx_form c.in-OrElse.is ∙ form_of_or_else c.in-OrElse.first c.in-OrElse.second in
    let found = subst (λ tx. IfErr c.find_retired-in-OrElse-2.result (λ w. IsTrueOf scope (tx_form tx) w)) c.deref-in-OrElse-2.ensures (c.find_retired-in-OrElse-2.ensures vars names) in
    let item : IfErr c.inside-second-in-OrElse.result (λ w. IsTrueOf scope held w) = c.inside-second-in-OrElse.ensures.told scope held (tx_form c.in-OrElse.second.value) refl found in
    subst (λ d. IfErr c.inside-in-OrElse-2.result (λ w. IsTrueOf scope d w)) (sym form)
    (c.inside-in-OrElse-2.ensures.told scope (tagged (codes "orelse") held) held refl item)

pub find_retired_in-returns-in_err-inside : goal.find_retired_in-returns-in_err-inside
find_retired_in-returns-in_err-inside t c = λ vars names.
    let scope = store vars names c.args.always.now in
    let held : Data = array_of (map tx_form c.args.txs.now) in
    let there = form_there tx_form c.args.txs.now c.loop-i.i c.index-txs-i.result c.loop-i-test.true c.index-txs-i.is in
    handed (λ w. IsTrueOf scope held w) c.from_residual.result c.in_err-inside.field-0.0 c.from_residual.ensures.1
    (c.in_err-inside.ensures.told scope held (tx_form c.index-txs-i.result) there (c.find_retired.ensures vars names))

pub find_retired-find_retired-requires : goal.find_retired-find_retired-requires
find_retired-find_retired-requires t c = (search (rules, folds.the_lemmas), tt)

pub find_retired-find_retired-requires-in-When : goal.find_retired-find_retired-requires-in-When
find_retired-find_retired-requires-in-When t c = (search (rules, folds.the_lemmas), tt)

pub find_retired-find_retired-requires-in-OrElse : goal.find_retired-find_retired-requires-in-OrElse
find_retired-find_retired-requires-in-OrElse t c = (search (rules, folds.the_lemmas), tt)

pub find_retired-find_retired-requires-in-OrElse-2 :
    goal.find_retired-find_retired-requires-in-OrElse-2
find_retired-find_retired-requires-in-OrElse-2 t c = (search (rules, folds.the_lemmas), tt)

pub find_retired-find_retired_in-requires : goal.find_retired-find_retired_in-requires
find_retired-find_retired_in-requires t c = (search (rules, folds.the_lemmas), tt)

pub find_retired_in-find_retired-requires : goal.find_retired_in-find_retired-requires
find_retired_in-find_retired-requires t c =
    let item = c.index-txs-i.is in
    let within = c.loop-i-test.true in
    (grind (arith, folds.the_lemmas, item, within), tt)
