use Rattle.std.proofs.Common.{ap, ◌∙◌}
use Rattle.tmem_forms.specs.TxForms.{tx_form}
use Rattle.tmem_desk.proofs.Subtrees.{falls_to_item, falls_to_then, falls_to_other, falls_to_left, falls_to_right, same_seq, same_when, same_or_else, forms_more}
use Rattle.tmem_desk.proofs.copying.+copy_of.Goals as goal

pub copy_of-requires : goal.copy_of-requires
copy_of-requires t c = (falls_to_item c.args.tx.now c.in-Seq.txs c.deref-t-items.result.now c.loop-t.t-index c.t-item.result t c.in-Seq.is c.deref-t-items.ensures.value c.loop-t-test.true c.t-item.is c.decreases, tt)

pub copy_of-requires-in-When : goal.copy_of-requires-in-When
copy_of-requires-in-When t c = (falls_to_then c.args.tx.now c.in-When.reg c.in-When.then c.in-When.other c.deref.result.now t c.in-When.is c.deref.ensures c.decreases, tt)

pub copy_of-requires-in-When-2 : goal.copy_of-requires-in-When-2
copy_of-requires-in-When-2 t c = (falls_to_other c.args.tx.now c.in-When.reg c.in-When.then c.in-When.other c.deref-in-When.result.now t c.in-When.is c.deref-in-When.ensures c.decreases, tt)

pub copy_of-requires-in-OrElse : goal.copy_of-requires-in-OrElse
copy_of-requires-in-OrElse t c = (falls_to_left c.args.tx.now c.in-OrElse.left c.in-OrElse.right c.deref-in-OrElse.result.now t c.in-OrElse.is c.deref-in-OrElse.ensures c.decreases, tt)

pub copy_of-requires-in-OrElse-2 : goal.copy_of-requires-in-OrElse-2
copy_of-requires-in-OrElse-2 t c = (falls_to_right c.args.tx.now c.in-OrElse.left c.in-OrElse.right c.deref-in-OrElse-2.result.now t c.in-OrElse.is c.deref-in-OrElse-2.ensures c.decreases, tt)

pub loop-t-preserved : goal.loop-t-preserved
loop-t-preserved t c = forms_more c.loop-t.all.items c.push.new.self.items c.deref-t-items.result.now c.in_ok-copy_of-in-Seq.field-0 c.loop-t.t-index c.t-item.result c.loop-t-test.true c.t-item.is c.in_ok-copy_of-in-Seq.ensures c.loop-t.invariant c.in_ok-push-in-Seq.ensures.items

pub returns-after-loop-t : goal.returns-after-loop-t
returns-after-loop-t t c = same_seq c.args.tx.now c.in-Seq.txs c.loop-t.all c.deref-t-items.result.now c.loop-t.t-index c.in-Seq.is c.deref-t-items.ensures.value c.loop-t-test.false c.loop-t.invariant

pub returns-in_ok-other-in-When : goal.returns-in_ok-other-in-When
returns-in_ok-other-in-When t c =
    same_when c.when.result c.args.tx.now c.in-When.reg c.in-When.then c.in-When.other c.in_ok-then-in-When.then c.in_ok-other-in-When.other c.in-When.is
    (c.in_ok-then-in-When.ensures ∙ ap tx_form c.deref.ensures) (c.in_ok-other-in-When.ensures ∙ ap tx_form c.deref-in-When.ensures) c.when.ensures

pub returns-in_ok-right-in-OrElse : goal.returns-in_ok-right-in-OrElse
returns-in_ok-right-in-OrElse t c =
    same_or_else c.or_else.result c.args.tx.now c.in-OrElse.left c.in-OrElse.right c.in_ok-left-in-OrElse.left c.in_ok-right-in-OrElse.right c.in-OrElse.is
    (c.in_ok-left-in-OrElse.ensures ∙ ap tx_form c.deref-in-OrElse.ensures) (c.in_ok-right-in-OrElse.ensures ∙ ap tx_form c.deref-in-OrElse-2.ensures) c.or_else.ensures
