use Rattle.std.proofs.Common.{◌≡◌, ◌∷◌, [], IfErr, false, sym, ap, ◌∙◌, subst, arith, rules, tests}
use Rattle.std.proofs.lemmas.Bool.Decides.{nat_tests}
use borrow.Author.Tests.{ltb-true}
use Rattle.serde_json.specs.View.{view}
use Rattle.tmem_forms.specs.TxForms.{tagged}
use Rattle.tmem_requests.specs.Wrong.{IsTrueOf, is_headed, part}
use Rattle.tmem_requests.proofs.Wrongs.{handed, item_there, length_of_array, not_headed, one_member}
use Rattle.tmem_requests.proofs.explain.tx.+find.Goals as goal
use Rattle.tmem_requests.proofs.explain.tx.+find.Goals.{find_in_when-in_default-as_slice-via-then-as_slice-lt3, find_in_when-in_default-as_slice-via-else-as_slice-lt3+else-this-lt4}

pub find_in_seq-returns-in_err-inside : goal.find_in_seq-returns-in_err-inside
find_in_seq-returns-in_err-inside t c =
    let there = item_there c.args.body.now c.in-Array.items c.deref-item-items.result.now c.loop-i.i c.item-item.result c.in-Array.is c.deref-item-items.ensures.value c.loop-i-test.true c.item-item.is in
    handed (λ w. IsTrueOf part (view c.args.body.now) w) c.from_residual.result c.in_err-inside.field-0.0 c.from_residual.ensures.1
    (c.in_err-inside.ensures.told part (view c.args.body.now) (view c.item-item.result) there c.find_in_tx.ensures)

pub find_in_tx-returns-then-len-ne1 : goal.find_in_tx-returns-then-len-ne1
find_in_tx-returns-then-len-ne1 t c =
    c.here.ensures part (view c.args.value.now)
    (subst (λ v. is_headed (view v) ≡ false) (sym c.in-Object.is) (not_headed c.in-Object.members (λ one. c.if-len-ne1.true (c.len.ensures.len ∙ one))))

pub find_in_tx-returns-in-Some : goal.find_in_tx-returns-in-Some
find_in_tx-returns-in-Some t c =
    let is : view c.args.value.now ≡ tagged c.as_str-in-Some.result.now (view c.in-Some.body.now) =
    ap view c.in-Object.is ∙ one_member c.in-Object.members c.in-Some.key.now c.in-Some.body.now c.next.new.self (sym c.iter.ensures.rest ∙ c.in-Some.ensures.steps) (sym c.len.ensures.len ∙ c.if-len-ne1.false)
    ∙ ap (λ k. tagged k (view c.in-Some.body.now)) (sym c.as_str-in-Some.ensures.value) in
    subst (λ d. IfErr c.find_in_member.result (λ w. IsTrueOf part d w)) (sym is) c.find_in_member.ensures

pub find_in_when-returns-in_default-as_slice : goal.find_in_when-returns-in_default-as_slice
find_in_when-returns-in_default-as_slice t c =
    c.here-in_default-as_slice.ensures part (view c.args.body.now) (λ x y z is.
    let three = length_of_array c.args.body.now c.in-Array.items c.as_slice.result.now (x ∷ y ∷ z ∷ []) c.in-Array.is c.as_slice.ensures.value is in
    elim c.in_default-as_slice.branch [ find_in_when-in_default-as_slice-via-then-as_slice-lt3 w ↦ first_of (omega (arith, ltb-true), grind (arith, nat_tests), search (rules, tests)) | find_in_when-in_default-as_slice-via-else-as_slice-lt3+else-this-lt4 w ↦ first_of (omega (arith, ltb-true), grind (arith, nat_tests), search (rules, tests)) ])

pub find_in_when-returns-in_err-inside : goal.find_in_when-returns-in_err-inside
find_in_when-returns-in_err-inside t c =
    let there = item_there c.args.body.now c.in-Array.items c.as_slice.result.now 0 c.register-item.result c.in-Array.is c.as_slice.ensures.value (omega (arith, c.in-len3.len_at_least, c.in-len3.len_below)) c.register-item.is in
    handed (λ w. IsTrueOf part (view c.args.body.now) w) c.from_residual.result c.in_err-inside.field-0.0 c.from_residual.ensures.1
    (c.in_err-inside.ensures.told part (view c.args.body.now) (view c.register-item.result) there c.find_in_register.ensures)

pub find_in_when-returns-in_err-inside-2 : goal.find_in_when-returns-in_err-inside-2
find_in_when-returns-in_err-inside-2 t c =
    let there = item_there c.args.body.now c.in-Array.items c.as_slice.result.now 1 c.then-item.result c.in-Array.is c.as_slice.ensures.value (omega (arith, c.in-len3.len_at_least, c.in-len3.len_below)) c.then-item.is in
    handed (λ w. IsTrueOf part (view c.args.body.now) w) c.from_residual-in_err-inside-2.result c.in_err-inside-2.field-0.0 c.from_residual-in_err-inside-2.ensures.1
    (c.in_err-inside-2.ensures.told part (view c.args.body.now) (view c.then-item.result) there c.find_in_tx.ensures)

pub find_in_when-returns : goal.find_in_when-returns
find_in_when-returns t c =
    c.inside-3.ensures.told part (view c.args.body.now) (view c.other-item.result)
    (item_there c.args.body.now c.in-Array.items c.as_slice.result.now 2 c.other-item.result c.in-Array.is c.as_slice.ensures.value (omega (arith, c.in-len3.len_at_least, c.in-len3.len_below)) c.other-item.is)
    c.find_in_tx-2.ensures
