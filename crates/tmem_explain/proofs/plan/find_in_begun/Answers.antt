use Rattle.std.proofs.Common.{◌≡◌, ◌∷◌, [], IfErr, codes, refl, sym, ap, ◌∙◌, subst}
use Rattle.serde_json.specs.Data.{Data}
use Rattle.tmem_forms.specs.TxForms.{array_of, natural, tagged, tx_form}
use Rattle.tmem_script.specs.Scripts.{entry_form, event_form}
use Rattle.tmem_explain.specs.Flaws.{IsAmissIn}
use Rattle.tmem_explain.proofs.plan.find_in_begun.Goals as goal

pub returns-clause-amiss : goal.returns-clause-amiss
returns-clause-amiss c =
    let held : Data = array_of (natural c.in-Begin.slot ∷ tx_form c.in-Begin.tx ∷ []) in
    let form : entry_form c.args.entry.now ≡ tagged (codes "begin") held = ap entry_form c.in-Event.is ∙ ap event_form c.in-Begin.is in
    let item : IfErr c.inside.result (λ a. IsAmissIn held a) = c.inside.ensures.amiss held (tx_form c.in-Begin.tx) refl c.find_in_plan-found.ensures.amiss in
    subst (λ d. IfErr c.inside-2.result (λ a. IsAmissIn d a)) (sym form) (c.inside-2.ensures.amiss (tagged (codes "begin") held) held refl item)

pub returns-clause-cause : goal.returns-clause-cause
returns-clause-cause c =
    let l = c.args.limit in
    c.inside-2.ensures.cause l.cause l.vars l.total (c.inside.ensures.cause l.cause l.vars l.total c.find_in_plan-found.ensures.cause)
