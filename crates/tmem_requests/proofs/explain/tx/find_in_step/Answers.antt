use Rattle.std.proofs.Common.{◌∷◌, [], arith, rules, tests}
use Rattle.std.proofs.lemmas.Bool.Decides.{nat_tests}
use borrow.Author.Tests.{ltb-true}
use Rattle.serde_json.specs.View.{view}
use Rattle.tmem_requests.specs.Wrong.{IsTrueOf, part}
use Rattle.tmem_requests.proofs.Wrongs.{handed, item_there, length_of_array}
use Rattle.tmem_requests.proofs.explain.tx.find_in_step.Goals as goal
use Rattle.tmem_requests.proofs.explain.tx.find_in_step.Goals.{in_default-as_slice-via-then-as_slice-lt3, in_default-as_slice-via-else-as_slice-lt3+else-this-lt4}

pub returns-in_default-as_slice : goal.returns-in_default-as_slice
returns-in_default-as_slice c =
    c.here-in_default-as_slice.ensures part (view c.args.body.now) (λ x y z is.
    let three = length_of_array c.args.body.now c.in-Array.items c.as_slice.result.now (x ∷ y ∷ z ∷ []) c.in-Array.is c.as_slice.ensures.value is in
    elim c.in_default-as_slice.branch [ in_default-as_slice-via-then-as_slice-lt3 w ↦ first_of (omega (arith, ltb-true), grind (arith, nat_tests), search (rules, tests)) | in_default-as_slice-via-else-as_slice-lt3+else-this-lt4 w ↦ first_of (omega (arith, ltb-true), grind (arith, nat_tests), search (rules, tests)) ])

pub returns-in_err-inside : goal.returns-in_err-inside
returns-in_err-inside c =
    let there = item_there c.args.body.now c.in-Array.items c.as_slice.result.now 0 c.name-item.result c.in-Array.is c.as_slice.ensures.value (omega (arith, c.in-len3.len_at_least, c.in-len3.len_below)) c.name-item.is in
    handed (λ w. IsTrueOf part (view c.args.body.now) w) c.from_residual.result c.in_err-inside.field-0.0 c.from_residual.ensures.1
    (c.in_err-inside.ensures.told part (view c.args.body.now) (view c.name-item.result) there c.find_in_step_name.ensures)

pub returns-in_err-inside-2 : goal.returns-in_err-inside-2
returns-in_err-inside-2 c =
    let there = item_there c.args.body.now c.in-Array.items c.as_slice.result.now 1 c.registers-item.result c.in-Array.is c.as_slice.ensures.value (omega (arith, c.in-len3.len_at_least, c.in-len3.len_below)) c.registers-item.is in
    handed (λ w. IsTrueOf part (view c.args.body.now) w) c.from_residual-in_err-inside-2.result c.in_err-inside-2.field-0.0 c.from_residual-in_err-inside-2.ensures.1
    (c.in_err-inside-2.ensures.told part (view c.args.body.now) (view c.registers-item.result) there c.find_in_items.ensures)

pub returns : goal.returns
returns c =
    c.inside-3.ensures.told part (view c.args.body.now) (view c.register-item.result)
    (item_there c.args.body.now c.in-Array.items c.as_slice.result.now 2 c.register-item.result c.in-Array.is c.as_slice.ensures.value (omega (arith, c.in-len3.len_at_least, c.in-len3.len_below)) c.register-item.is)
    c.find_in_register.ensures
