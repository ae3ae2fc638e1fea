use Rattle.std.proofs.Common.{◌≡◌, ◌∷◌, [], IfErr, map, codes, refl, sym, ap, ◌∙◌, subst, arith, rules}
use Rattle.serde_json.specs.Data.{Data}
use Rattle.tmem_fault.specs.declared.fault.Cause.{Cause}
use Rattle.tmem_forms.specs.TxForms.{array_of, natural, tagged, tx_form}
use Rattle.tmem_tree.specs.declared.tx.Tx.TheFolds as folds
use Rattle.tmem_explain.specs.Flaws.{IsAmissIn, TellsCause}
use Rattle.tmem_explain.proofs.Amisses.{form_of_or_else, form_of_when, form_there, handed}
use Rattle.tmem_explain.proofs.plan.+plan.Goals as goal

pub find_below-returns-in_err-left-in-When-clause-amiss :
    goal.find_below-returns-in_err-left-in-When-clause-amiss
find_below-returns-in_err-left-in-When-clause-amiss t c =
    let held : Data = array_of (natural c.in-When.reg ∷ tx_form c.in-When.then.value ∷ tx_form c.in-When.other.value ∷ []) in
    let form : tx_form c.args.tx.now ≡ tagged (codes "when") held = ap tx_form c.in-When.is ∙ form_of_when c.in-When.reg c.in-When.then c.in-When.other in
    let found = subst (λ tx. IfErr c.find_in_plan-first.result (λ a. IsAmissIn (tx_form tx) a)) c.deref-in-When.ensures c.find_in_plan-first.ensures.amiss in
    let item : IfErr c.inside-in-When.result (λ a. IsAmissIn held a) = c.inside-in-When.ensures.amiss held (tx_form c.in-When.then.value) refl found in
    handed (λ a. IsAmissIn (tx_form c.args.tx.now) a) c.from_residual.result c.in_err-left-in-When.field-0.0 c.from_residual.ensures.1
    (subst (λ d. IsAmissIn d c.in_err-left-in-When.field-0.0) (sym form) (c.in_err-left-in-When.ensures.amiss (tagged (codes "when") held) held refl item))

pub find_below-returns-in_err-left-in-OrElse-clause-amiss :
    goal.find_below-returns-in_err-left-in-OrElse-clause-amiss
find_below-returns-in_err-left-in-OrElse-clause-amiss t c =
    let held : Data = array_of (tx_form c.in-OrElse.first.value ∷ tx_form c.in-OrElse.second.value ∷ []) in
    let form : tx_form c.args.tx.now ≡ tagged (codes "orelse") held = ap tx_form c.in-OrElse.is ∙ form_of_or_else c.in-OrElse.first c.in-OrElse.second in
    let found = subst (λ tx. IfErr c.find_in_plan-first-in-OrElse.result (λ a. IsAmissIn (tx_form tx) a)) c.deref-in-OrElse.ensures c.find_in_plan-first-in-OrElse.ensures.amiss in
    let item : IfErr c.inside-in-OrElse.result (λ a. IsAmissIn held a) = c.inside-in-OrElse.ensures.amiss held (tx_form c.in-OrElse.first.value) refl found in
    handed (λ a. IsAmissIn (tx_form c.args.tx.now) a) c.from_residual-in_err-left-in-OrElse.result c.in_err-left-in-OrElse.field-0.0 c.from_residual-in_err-left-in-OrElse.ensures.1
    (subst (λ d. IsAmissIn d c.in_err-left-in-OrElse.field-0.0) (sym form) (c.in_err-left-in-OrElse.ensures.amiss (tagged (codes "orelse") held) held refl item))

pub find_below-returns-in_ok-left-in-When-clause-amiss :
    goal.find_below-returns-in_ok-left-in-When-clause-amiss
find_below-returns-in_ok-left-in-When-clause-amiss t c =
    let held : Data = array_of (natural c.in-When.reg ∷ tx_form c.in-When.then.value ∷ tx_form c.in-When.other.value ∷ []) in
    let form : tx_form c.args.tx.now ≡ tagged (codes "when") held = ap tx_form c.in-When.is ∙ form_of_when c.in-When.reg c.in-When.then c.in-When.other in
    let found = subst (λ tx. IfErr c.find_in_plan-second.result (λ a. IsAmissIn (tx_form tx) a)) c.deref-in-When-2.ensures c.find_in_plan-second.ensures.amiss in
    let item : IfErr c.inside-in-When-3.result (λ a. IsAmissIn held a) = c.inside-in-When-3.ensures.amiss held (tx_form c.in-When.other.value) refl found in
    subst (λ d. IfErr c.inside-in-When-4.result (λ a. IsAmissIn d a)) (sym form) (c.inside-in-When-4.ensures.amiss (tagged (codes "when") held) held refl item)

pub find_below-returns-in_ok-left-in-OrElse-clause-amiss :
    goal.find_below-returns-in_ok-left-in-OrElse-clause-amiss
find_below-returns-in_ok-left-in-OrElse-clause-amiss t c =
    let held : Data = array_of (tx_form c.in-OrElse.first.value ∷ tx_form c.in-OrElse.second.value ∷ []) in
    let form : tx_form c.args.tx.now ≡ tagged (codes "orelse") held = ap tx_form c.in-OrElse.is ∙ form_of_or_else c.in-OrElse.first c.in-OrElse.second in
    let found = subst (λ tx. IfErr c.find_in_plan-second-in-OrElse.result (λ a. IsAmissIn (tx_form tx) a)) c.deref-in-OrElse-2.ensures c.find_in_plan-second-in-OrElse.ensures.amiss in
    let item : IfErr c.inside-in-OrElse-3.result (λ a. IsAmissIn held a) = c.inside-in-OrElse-3.ensures.amiss held (tx_form c.in-OrElse.second.value) refl found in
    subst (λ d. IfErr c.inside-in-OrElse-4.result (λ a. IsAmissIn d a)) (sym form) (c.inside-in-OrElse-4.ensures.amiss (tagged (codes "orelse") held) held refl item)

pub find_in_row-returns-in_err-left-clause-amiss : goal.find_in_row-returns-in_err-left-clause-amiss
find_in_row-returns-in_err-left-clause-amiss t c =
    let held : Data = array_of (map tx_form c.args.txs.now) in
    let there = form_there tx_form c.args.txs.now c.loop-i.i c.index-txs-i.result c.loop-i-test.true c.index-txs-i.is in
    handed (λ a. IsAmissIn held a) c.from_residual.result c.in_err-left.field-0.0 c.from_residual.ensures.1
    (c.in_err-left.ensures.amiss held (tx_form c.index-txs-i.result) there c.find_in_plan-found.ensures.amiss)

pub find_below-returns-in_err-left-in-When-clause-cause :
    goal.find_below-returns-in_err-left-in-When-clause-cause
find_below-returns-in_err-left-in-When-clause-cause t c =
    let l = c.args.limit in
    handed (λ a. TellsCause l.cause l.vars l.total a.expected) c.from_residual.result c.in_err-left-in-When.field-0.0 c.from_residual.ensures.1
    (c.in_err-left-in-When.ensures.cause l.cause l.vars l.total (c.inside-in-When.ensures.cause l.cause l.vars l.total c.find_in_plan-first.ensures.cause))

pub find_below-returns-in_err-left-in-OrElse-clause-cause :
    goal.find_below-returns-in_err-left-in-OrElse-clause-cause
find_below-returns-in_err-left-in-OrElse-clause-cause t c =
    let l = c.args.limit in
    handed (λ a. TellsCause l.cause l.vars l.total a.expected) c.from_residual-in_err-left-in-OrElse.result c.in_err-left-in-OrElse.field-0.0 c.from_residual-in_err-left-in-OrElse.ensures.1
    (c.in_err-left-in-OrElse.ensures.cause l.cause l.vars l.total (c.inside-in-OrElse.ensures.cause l.cause l.vars l.total c.find_in_plan-first-in-OrElse.ensures.cause))

pub find_below-returns-in_ok-left-in-When-clause-cause :
    goal.find_below-returns-in_ok-left-in-When-clause-cause
find_below-returns-in_ok-left-in-When-clause-cause t c =
    let l = c.args.limit in
    c.inside-in-When-4.ensures.cause l.cause l.vars l.total (c.inside-in-When-3.ensures.cause l.cause l.vars l.total c.find_in_plan-second.ensures.cause)

pub find_below-returns-in_ok-left-in-OrElse-clause-cause :
    goal.find_below-returns-in_ok-left-in-OrElse-clause-cause
find_below-returns-in_ok-left-in-OrElse-clause-cause t c =
    let l = c.args.limit in
    c.inside-in-OrElse-4.ensures.cause l.cause l.vars l.total (c.inside-in-OrElse-3.ensures.cause l.cause l.vars l.total c.find_in_plan-second-in-OrElse.ensures.cause)

pub find_below-returns-in-Seq-clause-cause : goal.find_below-returns-in-Seq-clause-cause
find_below-returns-in-Seq-clause-cause t c = c.inside.ensures.cause c.args.limit.cause c.args.limit.vars c.args.limit.total c.find_in_row-found.ensures.cause

pub find_in_row-returns-in_err-left-clause-cause : goal.find_in_row-returns-in_err-left-clause-cause
find_in_row-returns-in_err-left-clause-cause t c =
    let l = c.args.limit in
    handed (λ a. TellsCause l.cause l.vars l.total a.expected) c.from_residual.result c.in_err-left.field-0.0 c.from_residual.ensures.1
    (c.in_err-left.ensures.cause l.cause l.vars l.total c.find_in_plan-found.ensures.cause)

pub find_in_plan-returns-in-None-checked_sub-clause-cause :
    goal.find_in_plan-returns-in-None-checked_sub-clause-cause
find_in_plan-returns-in-None-checked_sub-clause-cause t c =
    let l = c.args.limit in
    subst (λ (k : Cause). TellsCause k l.vars l.total c.past.result.expected) c.in-Some.ensures.cause (c.past.ensures.cause l.total c.in-Some.ensures.total)

pub find_below-find_in_plan-first-requires : goal.find_below-find_in_plan-first-requires
find_below-find_in_plan-first-requires t c = (search (rules, folds.the_lemmas), tt)

pub find_below-find_in_plan-second-requires : goal.find_below-find_in_plan-second-requires
find_below-find_in_plan-second-requires t c = (search (rules, folds.the_lemmas), tt)

pub find_below-find_in_plan-first-requires-in-OrElse :
    goal.find_below-find_in_plan-first-requires-in-OrElse
find_below-find_in_plan-first-requires-in-OrElse t c = (search (rules, folds.the_lemmas), tt)

pub find_below-find_in_plan-second-requires-in-OrElse :
    goal.find_below-find_in_plan-second-requires-in-OrElse
find_below-find_in_plan-second-requires-in-OrElse t c = (search (rules, folds.the_lemmas), tt)

pub find_below-find_in_row-found-requires : goal.find_below-find_in_row-found-requires
find_below-find_in_row-found-requires t c = (search (rules, folds.the_lemmas), tt)

pub find_in_row-find_in_plan-found-requires : goal.find_in_row-find_in_plan-found-requires
find_in_row-find_in_plan-found-requires t c =
    let item = c.index-txs-i.is in
    let within = c.loop-i-test.true in
    (grind (arith, folds.the_lemmas, item, within), tt)
