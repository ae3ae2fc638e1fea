use Rattle.std.proofs.Common.{◌≡◌, List, ℕ, Some, IfOk, IfErr, sym, ap, ◌∙◌, subst, arith}
use Rattle.serde_json.specs.Data.{Data}
use Rattle.serde_json.specs.View.{view}
use Rattle.tmem_forms.specs.Errors.{Refuses}
use Rattle.tmem_script.specs.Scripts.{IsEvent}
use Rattle.tmem_forms.specs.TxForms.{tagged}
use Rattle.tmem_script.proofs.EventForms.{NoEvent, no_event_of_members}
use Rattle.tmem_script.proofs.Members.{object_found, first_alone}
use Rattle.tmem_script.proofs.event.event_of.Goals as goal

pub returns-then-len-ne1-clause-refused : goal.returns-then-len-ne1-clause-refused
returns-then-len-ne1-clause-refused c =
    let members = c.in_ok-members.members in
    let found : c.as_object.result ≡ Some members = grind arith in
    no_event_of_members _ members.now.entries (object_found _ c.as_object.result members c.as_object.ensures found) (λ one. c.if-len-ne1.true (c.len.ensures.len ∙ one))

pub returns-in-Some-first_key_value-clause-ok : goal.returns-in-Some-first_key_value-clause-ok
returns-in-Some-first_key_value-clause-ok c =
    let members = c.in_ok-members.members in
    let found : c.as_object.result ≡ Some members = grind arith in
    let pair = c.in-Some-first_key_value in
    let is : view c.args.value.now ≡ tagged c.as_str-in-Some-first_key_value.result.now (view pair.body.now) =
    object_found _ c.as_object.result members c.as_object.ensures found
    ∙ first_alone members.now.entries pair.key.now pair.body.now pair.ensures.first (sym c.len.ensures.len ∙ c.if-len-ne1.false)
    ∙ ap (λ (k : List ℕ). tagged k (view pair.body.now)) (sym c.as_str-in-Some-first_key_value.ensures.value) in
    subst (λ (d : Data). IfOk c.event_of_member.result (λ event. IsEvent event d)) (sym is) c.event_of_member.ensures.ok

pub returns-in-Some-first_key_value-clause-refused :
    goal.returns-in-Some-first_key_value-clause-refused
returns-in-Some-first_key_value-clause-refused c =
    let members = c.in_ok-members.members in
    let found : c.as_object.result ≡ Some members = grind arith in
    let pair = c.in-Some-first_key_value in
    let is : view c.args.value.now ≡ tagged c.as_str-in-Some-first_key_value.result.now (view pair.body.now) =
    object_found _ c.as_object.result members c.as_object.ensures found
    ∙ first_alone members.now.entries pair.key.now pair.body.now pair.ensures.first (sym c.len.ensures.len ∙ c.if-len-ne1.false)
    ∙ ap (λ (k : List ℕ). tagged k (view pair.body.now)) (sym c.as_str-in-Some-first_key_value.ensures.value) in
    subst (λ (d : Data). IfErr c.event_of_member.result (λ e. Refuses e (NoEvent d))) (sym is) c.event_of_member.ensures.refused
