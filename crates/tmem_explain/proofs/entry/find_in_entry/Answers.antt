use Rattle.std.proofs.Common.{◌≡◌, IfErr, false, sym, ap, ◌∙◌, subst}
use Rattle.serde_json.specs.View.{view}
use Rattle.tmem_forms.specs.TxForms.{tagged}
use Rattle.tmem_explain.specs.Flaws.{IsAmissIn, is_entry_headed}
use Rattle.tmem_explain.proofs.Amisses.{not_headed, one_member}
use Rattle.tmem_explain.proofs.entry.find_in_entry.Goals as goal

pub returns-then-len-ne1 : goal.returns-then-len-ne1
returns-then-len-ne1 c =
    c.here.ensures.amiss (view c.args.value.now)
    (subst (λ v. is_entry_headed (view v) ≡ false) (sym c.in-Object.is) (not_headed c.in-Object.members (λ one. c.if-len-ne1.true (c.len.ensures.len ∙ one))))

pub returns-in-Some : goal.returns-in-Some
returns-in-Some c =
    let is : view c.args.value.now ≡ tagged c.as_str-in-Some.result.now (view c.in-Some.body.now) =
    ap view c.in-Object.is ∙ one_member c.in-Object.members c.in-Some.key.now c.in-Some.body.now c.next.new.self (sym c.iter.ensures.rest ∙ c.in-Some.ensures.steps) (sym c.len.ensures.len ∙ c.if-len-ne1.false)
    ∙ ap (λ k. tagged k (view c.in-Some.body.now)) (sym c.as_str-in-Some.ensures.value) in
    subst (λ d. IfErr c.find_in_event.result (λ a. IsAmissIn d a)) (sym is) c.find_in_event.ensures
