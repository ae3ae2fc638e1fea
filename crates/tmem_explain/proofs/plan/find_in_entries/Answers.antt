use Rattle.std.proofs.Common.{map, refl, sym, subst}
use Rattle.std.proofs.lemmas.Result.{IfErr-weaker}
use Rattle.tmem_forms.specs.TxForms.{array_of}
use Rattle.tmem_script.specs.Scripts.{entry_form}
use Rattle.tmem_explain.specs.Limits.{LeadIntoItem}
use Rattle.tmem_explain.proofs.Amisses.{form_there}
use Rattle.tmem_explain.proofs.plan.find_in_entries.Goals as goal

pub returns-clause-amiss : goal.returns-clause-amiss
returns-clause-amiss c =
    let entry = c.index-entries-index.result in
    let there = form_there entry_form c.args.entries.now c.args.index entry c.if-index-entries.false c.index-entries-index.is in
    c.inside.ensures.amiss (array_of (map entry_form c.args.entries.now)) (entry_form entry) there c.find_in_begun-found.ensures.amiss

pub returns-clause-item : goal.returns-clause-item
returns-clause-item c =
    IfErr-weaker c.inside.result _ _ (λ a told plan. subst (λ steps. LeadIntoItem c.args.index steps) (sym (told plan).2.steps) refl) c.inside.ensures.told
