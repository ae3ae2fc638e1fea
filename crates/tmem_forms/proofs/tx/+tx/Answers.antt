use Rattle.std.proofs.Common.{◌≡◌, ◌∷◌, [], ◌++◌, ℕ, map, IfOk, IfErr, codes, refl, sym, ap, ◌∙◌, subst, arith, rules, tests}
use Rattle.std.proofs.lemmas.Bool.Decides.{nat_tests}
use borrow.Author.Tests.{ltb-true}
use Rattle.std.proofs.lemmas.List.{take_all}
use Rattle.std.proofs.lemmas.List.Elements.{All-push, All-same}
use Rattle.serde_json.specs.View.{view}
use Rattle.tmem_tree.specs.declared.tx.Tx.{Tx}
use Rattle.tmem_forms.specs.Errors.{Refuses}
use Rattle.tmem_forms.specs.TxForms.{IsByte, IsTx, TxInRange, tx_form, natural, array_of, tagged}
use Rattle.tmem_forms.proofs.ArrayForms.{three_same, view_of_two, view_of_three, length-array, view_of_only}
use Rattle.tmem_forms.proofs.Laws.{passed_on, map_more, NoTx, two_same, view_of_array, no_items_at, items_of_body}
use Rattle.tmem_forms.proofs.Levels.{IsTx-OrElse, IsTx-When, IsTx-Seq, no_or_else, no_when, no_seq, no_tx_of_members, tagged_as}
use Rattle.tmem_forms.proofs.Sizes.{falls_to_item, falls_to_member}
use Rattle.tmem_forms.proofs.tx.+tx.Goals as goal
use Rattle.tmem_forms.proofs.tx.+tx.Goals.{or_else_of-in_default-as_slice-via-then-as_slice-lt2, or_else_of-in_default-as_slice-via-else-as_slice-lt2+else-this-lt3, when_of-in_default-as_slice-via-then-as_slice-lt3, when_of-in_default-as_slice-via-else-as_slice-lt3+else-this-lt4}

pub or_else_of-returns-in_default-as_slice-clause-refused :
    goal.or_else_of-returns-in_default-as_slice-clause-refused
or_else_of-returns-in_default-as_slice-clause-refused t c =
    no_or_else (codes "orelse") (view c.args.body.now) refl (λ a b first second is.
    let two = length-array c.args.body.now c.in-Array.items c.as_slice.result.now (tx_form a ∷ tx_form b ∷ []) c.in-Array.is c.as_slice.ensures.value is in
    elim c.in_default-as_slice.branch [ or_else_of-in_default-as_slice-via-then-as_slice-lt2 w ↦ first_of (omega (arith, ltb-true), grind (arith, nat_tests), search (rules, tests)) | or_else_of-in_default-as_slice-via-else-as_slice-lt2+else-this-lt3 w ↦ first_of (omega (arith, ltb-true), grind (arith, nat_tests), search (rules, tests)) ])

pub or_else_of-returns-in_err-first-clause-refused :
    goal.or_else_of-returns-in_err-first-clause-refused
or_else_of-returns-in_err-first-clause-refused t c =
    let body = view_of_two c.args.body.now c.in-Array.items c.as_slice.result.now c.left-item.result c.right-item.result c.in-Array.is c.as_slice.ensures.value (omega (arith, c.in-len2.len_at_least, c.in-len2.len_below)) c.left-item.is c.right-item.is in
    passed_on (NoTx (view c.left-item.result)) (NoTx (tagged (codes "orelse") (view c.args.body.now)))
    c.from_residual.result c.in_err-first.field-0.0 c.from_residual.ensures.1 c.in_err-first.ensures.refused
    (λ none. no_or_else (codes "orelse") (view c.args.body.now) refl (λ a b first second is.
    none a (record { form = (two_same _ _ _ _ (sym body ∙ is)).0; in_range = first })))

pub or_else_of-returns-in_err-second-clause-refused :
    goal.or_else_of-returns-in_err-second-clause-refused
or_else_of-returns-in_err-second-clause-refused t c =
    let body = view_of_two c.args.body.now c.in-Array.items c.as_slice.result.now c.left-item.result c.right-item.result c.in-Array.is c.as_slice.ensures.value (omega (arith, c.in-len2.len_at_least, c.in-len2.len_below)) c.left-item.is c.right-item.is in
    passed_on (NoTx (view c.right-item.result)) (NoTx (tagged (codes "orelse") (view c.args.body.now)))
    c.from_residual-in_err-second.result c.in_err-second.field-0.0 c.from_residual-in_err-second.ensures.1 c.in_err-second.ensures.refused
    (λ none. no_or_else (codes "orelse") (view c.args.body.now) refl (λ a b first second is.
    none b (record { form = (two_same _ _ _ _ (sym body ∙ is)).1; in_range = second })))

pub or_else_of-returns-clause-ok : goal.or_else_of-returns-clause-ok
or_else_of-returns-clause-ok t c =
    let body = view_of_two c.args.body.now c.in-Array.items c.as_slice.result.now c.left-item.result c.right-item.result c.in-Array.is c.as_slice.ensures.value (omega (arith, c.in-len2.len_at_least, c.in-len2.len_below)) c.left-item.is c.right-item.is in
    let first : IsTx c.in_ok-left.left.value (view c.left-item.result) = subst (λ (tx : Tx). IsTx tx (view c.left-item.result)) (sym c.in_ok-left.ensures.ok) c.in_ok-first.ensures.ok in
    let second : IsTx c.in_ok-right.right.value (view c.right-item.result) = subst (λ (tx : Tx). IsTx tx (view c.right-item.result)) (sym c.in_ok-right.ensures.ok) c.in_ok-second.ensures.ok in
    let form : view c.args.body.now ≡ array_of (tx_form c.in_ok-left.left.value ∷ tx_form c.in_ok-right.right.value ∷ []) = body ∙ rw (first.form, second.form) refl in
    tagged_as _ _ _ _ _ refl form (IsTx-OrElse c.in_ok-left.left c.in_ok-right.right first.in_range second.in_range)

pub when_of-returns-in_default-as_slice-clause-refused :
    goal.when_of-returns-in_default-as_slice-clause-refused
when_of-returns-in_default-as_slice-clause-refused t c =
    no_when (codes "when") (view c.args.body.now) refl (λ reg a b fits first second is.
    let three = length-array c.args.body.now c.in-Array.items c.as_slice.result.now (natural reg ∷ tx_form a ∷ tx_form b ∷ []) c.in-Array.is c.as_slice.ensures.value is in
    elim c.in_default-as_slice.branch [ when_of-in_default-as_slice-via-then-as_slice-lt3 w ↦ first_of (omega (arith, ltb-true), grind (arith, nat_tests), search (rules, tests)) | when_of-in_default-as_slice-via-else-as_slice-lt3+else-this-lt4 w ↦ first_of (omega (arith, ltb-true), grind (arith, nat_tests), search (rules, tests)) ])

pub when_of-returns-in_err-reg-clause-refused : goal.when_of-returns-in_err-reg-clause-refused
when_of-returns-in_err-reg-clause-refused t c =
    let body = view_of_three c.args.body.now c.in-Array.items c.as_slice.result.now c.reg-item.result c.then-item.result c.other-item.result c.in-Array.is c.as_slice.ensures.value (omega (arith, c.in-len3.len_at_least, c.in-len3.len_below)) c.reg-item.is c.then-item.is c.other-item.is in
    passed_on ((n : ℕ) → IsByte n → ¬ (view c.reg-item.result ≡ natural n)) (NoTx (tagged (codes "when") (view c.args.body.now)))
    c.from_residual.result c.in_err-reg.field-0.0 c.from_residual.ensures.1 c.in_err-reg.ensures.refused
    (λ none. no_when (codes "when") (view c.args.body.now) refl (λ reg a b fits first second is.
    none reg fits (three_same _ _ _ _ _ _ (sym body ∙ is)).0))

pub when_of-returns-in_err-first-clause-refused : goal.when_of-returns-in_err-first-clause-refused
when_of-returns-in_err-first-clause-refused t c =
    let body = view_of_three c.args.body.now c.in-Array.items c.as_slice.result.now c.reg-item.result c.then-item.result c.other-item.result c.in-Array.is c.as_slice.ensures.value (omega (arith, c.in-len3.len_at_least, c.in-len3.len_below)) c.reg-item.is c.then-item.is c.other-item.is in
    passed_on (NoTx (view c.then-item.result)) (NoTx (tagged (codes "when") (view c.args.body.now)))
    c.from_residual-in_err-first.result c.in_err-first.field-0.0 c.from_residual-in_err-first.ensures.1 c.in_err-first.ensures.refused
    (λ none. no_when (codes "when") (view c.args.body.now) refl (λ reg a b fits first second is.
    none a (record { form = (three_same _ _ _ _ _ _ (sym body ∙ is)).1; in_range = first })))

pub when_of-returns-in_err-second-clause-refused :
    goal.when_of-returns-in_err-second-clause-refused
when_of-returns-in_err-second-clause-refused t c =
    let body = view_of_three c.args.body.now c.in-Array.items c.as_slice.result.now c.reg-item.result c.then-item.result c.other-item.result c.in-Array.is c.as_slice.ensures.value (omega (arith, c.in-len3.len_at_least, c.in-len3.len_below)) c.reg-item.is c.then-item.is c.other-item.is in
    passed_on (NoTx (view c.other-item.result)) (NoTx (tagged (codes "when") (view c.args.body.now)))
    c.from_residual-in_err-second.result c.in_err-second.field-0.0 c.from_residual-in_err-second.ensures.1 c.in_err-second.ensures.refused
    (λ none. no_when (codes "when") (view c.args.body.now) refl (λ reg a b fits first second is.
    none b (record { form = (three_same _ _ _ _ _ _ (sym body ∙ is)).2; in_range = second })))

pub when_of-returns-clause-ok : goal.when_of-returns-clause-ok
when_of-returns-clause-ok t c =
    let body = view_of_three c.args.body.now c.in-Array.items c.as_slice.result.now c.reg-item.result c.then-item.result c.other-item.result c.in-Array.is c.as_slice.ensures.value (omega (arith, c.in-len3.len_at_least, c.in-len3.len_below)) c.reg-item.is c.then-item.is c.other-item.is in
    let first : IsTx c.in_ok-then.then.value (view c.then-item.result) = subst (λ (tx : Tx). IsTx tx (view c.then-item.result)) (sym c.in_ok-then.ensures.ok) c.in_ok-first.ensures.ok in
    let second : IsTx c.in_ok-other.other.value (view c.other-item.result) = subst (λ (tx : Tx). IsTx tx (view c.other-item.result)) (sym c.in_ok-other.ensures.ok) c.in_ok-second.ensures.ok in
    let form : view c.args.body.now ≡ array_of (natural c.in_ok-reg.reg ∷ tx_form c.in_ok-then.then.value ∷ tx_form c.in_ok-other.other.value ∷ []) = body ∙ rw (c.in_ok-reg.ensures.ok, first.form, second.form) refl in
    tagged_as _ _ _ _ _ refl form (IsTx-When c.in_ok-reg.reg c.in_ok-then.then c.in_ok-other.other c.in_ok-reg.ensures.in_range first.in_range second.in_range)

pub seq_of-returns-in_err-tx_of-clause-refused : goal.seq_of-returns-in_err-tx_of-clause-refused
seq_of-returns-in_err-tx_of-clause-refused t c =
    let items = c.deref-item-items.result.now in
    passed_on (NoTx (view c.item-item.result)) (NoTx (tagged (codes "seq") (view c.args.body.now)))
    c.from_residual-in_err-tx_of.result c.in_err-tx_of.field-0.0 c.from_residual-in_err-tx_of.ensures.1 c.in_err-tx_of.ensures.refused
    (λ none. no_seq (codes "seq") (view c.args.body.now) refl (λ txs all is.
    no_items_at tx_form TxInRange items c.loop-item.item-index c.item-item.result c.loop-item-test.true c.item-item.is
    (λ tx fits form. none tx (record { form = form; in_range = fits })) txs all
    (items_of_body c.args.body.now c.in-Array.items items (map tx_form txs) c.in-Array.is c.deref-item-items.ensures.value is)))

pub seq_of-loop-item-preserved : goal.seq_of-loop-item-preserved
seq_of-loop-item-preserved t c =
    let is = c.in_ok-tx_of.ensures.ok in
    record {
      read = map_more tx_form view c.loop-item.row.items c.push.new.self.items c.in_ok-tx_of.field-0 c.deref-item-items.result.now c.loop-item.item-index c.item-item.result c.loop-item-test.true c.item-item.is is.form c.loop-item.invariant.read c.in_ok-push.ensures.items;
      in_range = All-same TxInRange c.push.new.self.items (c.loop-item.row.items ++ c.in_ok-tx_of.field-0 ∷ []) c.in_ok-push.ensures.items (All-push TxInRange c.loop-item.row.items c.in_ok-tx_of.field-0 c.loop-item.invariant.in_range is.in_range);
    }

pub seq_of-returns-clause-ok : goal.seq_of-returns-clause-ok
seq_of-returns-clause-ok t c =
    let items = c.deref-item-items.result.now in
    let read : map tx_form c.loop-item.row.items ≡ map view items = c.loop-item.invariant.read ∙ ap (map view) (take_all c.loop-item.item-index items c.loop-item-test.false) in
    let form : view c.args.body.now ≡ array_of (map tx_form c.loop-item.row.items) = view_of_array c.args.body.now c.in-Array.items items c.in-Array.is c.deref-item-items.ensures.value ∙ ap array_of (sym read) in
    tagged_as _ _ _ _ _ refl form (IsTx-Seq c.loop-item.row c.loop-item.invariant.in_range)

pub tx_of-returns-in-Some-clause-ok : goal.tx_of-returns-in-Some-clause-ok
tx_of-returns-in-Some-clause-ok t c =
    let is = view_of_only c.args.value.now c.in-Object.members c.in-Some.key.now c.in-Some.body.now c.next.new.self c.as_str-in-Some.result.now c.in-Object.is (sym c.iter.ensures.rest ∙ c.in-Some.ensures.steps) (sym c.len.ensures.len ∙ c.if-len-ne1.false) c.as_str-in-Some.ensures.value in
    subst (λ d. IfOk c.tx_of_member.result (λ tx. IsTx tx d)) (sym is) c.tx_of_member.ensures.ok

pub tx_of-returns-in-Some-clause-refused : goal.tx_of-returns-in-Some-clause-refused
tx_of-returns-in-Some-clause-refused t c =
    let is = view_of_only c.args.value.now c.in-Object.members c.in-Some.key.now c.in-Some.body.now c.next.new.self c.as_str-in-Some.result.now c.in-Object.is (sym c.iter.ensures.rest ∙ c.in-Some.ensures.steps) (sym c.len.ensures.len ∙ c.if-len-ne1.false) c.as_str-in-Some.ensures.value in
    subst (λ d. IfErr c.tx_of_member.result (λ e. Refuses e (NoTx d))) (sym is) c.tx_of_member.ensures.refused

pub tx_of-returns-then-len-ne1-clause-refused : goal.tx_of-returns-then-len-ne1-clause-refused
tx_of-returns-then-len-ne1-clause-refused t c =
    subst (λ v. NoTx (view v)) (sym c.in-Object.is) (no_tx_of_members c.in-Object.members (λ one. c.if-len-ne1.true (c.len.ensures.len ∙ one)))

pub or_else_of-tx_of-requires : goal.or_else_of-tx_of-requires
or_else_of-tx_of-requires t c = (falls_to_item c.args.body.now c.in-Array.items c.as_slice.result.now 0 c.left-item.result t c.in-Array.is c.as_slice.ensures.value (omega (arith, c.in-len2.len_at_least)) c.left-item.is c.decreases, tt)

pub or_else_of-tx_of-requires-2 : goal.or_else_of-tx_of-requires-2
or_else_of-tx_of-requires-2 t c = (falls_to_item c.args.body.now c.in-Array.items c.as_slice.result.now 1 c.right-item.result t c.in-Array.is c.as_slice.ensures.value (omega (arith, c.in-len2.len_at_least)) c.right-item.is c.decreases, tt)

pub when_of-tx_of-requires : goal.when_of-tx_of-requires
when_of-tx_of-requires t c = (falls_to_item c.args.body.now c.in-Array.items c.as_slice.result.now 1 c.then-item.result t c.in-Array.is c.as_slice.ensures.value (omega (arith, c.in-len3.len_at_least)) c.then-item.is c.decreases, tt)

pub when_of-tx_of-requires-2 : goal.when_of-tx_of-requires-2
when_of-tx_of-requires-2 t c = (falls_to_item c.args.body.now c.in-Array.items c.as_slice.result.now 2 c.other-item.result t c.in-Array.is c.as_slice.ensures.value (omega (arith, c.in-len3.len_at_least)) c.other-item.is c.decreases, tt)

pub seq_of-tx_of-requires : goal.seq_of-tx_of-requires
seq_of-tx_of-requires t c = (falls_to_item c.args.body.now c.in-Array.items c.deref-item-items.result.now c.loop-item.item-index c.item-item.result t c.in-Array.is c.deref-item-items.ensures.value c.loop-item-test.true c.item-item.is c.decreases, tt)

pub tx_of-tx_of_member-requires : goal.tx_of-tx_of_member-requires
tx_of-tx_of_member-requires t c = (falls_to_member c.args.value.now c.in-Object.members c.in-Some.key.now c.in-Some.body.now c.next.new.self t c.in-Object.is (sym c.iter.ensures.rest ∙ c.in-Some.ensures.steps) c.decreases, tt)
