use Rattle.std.proofs.Common.{◌≡◌, take, refl, arith}
use Rattle.std.proofs.lemmas.List.{take_all}
use Rattle.tmem_tree.specs.Limits.{is_check, checks_name, lacks_signature}
use Rattle.tmem_tree.specs.Signatures.{names_of}
use Rattle.tmem_tree.proofs.Laws.{count_items, count-Seq}
use Rattle.tmem_tree.proofs.Good.{when_two, or_else_two}
use Rattle.tmem_tree.proofs.Known.{signatures_kept, signatures_kept_in, count_items-take_more, count_items-drop_more}
use Rattle.tmem_tree.proofs.signatures.+collect.Goals as goal

pub loop-t-init : goal.loop-t-init
loop-t-init t c = record {
  room = grind (arith, count-Seq is_check c.in-Seq.txs);
  known = refl;
  others = grind (arith, count-Seq (lacks_signature (names_of c.args.signatures.now)) c.in-Seq.txs, c.requires.known);
  kept = λ name there. there;
  among = λ all. all;
  checked = λ name. grind (arith, count-Seq (checks_name name) c.in-Seq.txs);
  once = λ distinct. distinct;
}

pub loop-t-preserved : goal.loop-t-preserved
loop-t-preserved t c =
    let items = c.deref-t-items.result.now in
    let at = c.loop-t.t-index in
    let tx = c.t-item.result in
    let old = names_of c.loop-t.into in
    let new = names_of c.collect.new.into in
    let was = c.loop-t.invariant in
    let more = c.collect.ensures in
    record {
      room = omega (arith, count_items-drop_more is_check items at tx c.loop-t-test.true c.t-item.is, was.room, more.room);
      known = omega (arith, count_items-take_more (lacks_signature new) items at tx c.loop-t-test.true c.t-item.is, signatures_kept_in old new more.kept (take at items) was.known, more.known);
      others = omega (arith, count_items-drop_more (lacks_signature (names_of c.args.signatures.now)) items at tx c.loop-t-test.true c.t-item.is, was.others);
      kept = λ name there. more.kept name (was.kept name there);
      among = λ all. more.among (was.among all);
      checked = λ name. omega (arith, count_items-drop_more (checks_name name) items at tx c.loop-t-test.true c.t-item.is, was.checked name, more.checked name);
      once = λ distinct. more.once (was.once distinct);
    }

pub returns-after-loop-t-clause-known : goal.returns-after-loop-t-clause-known
returns-after-loop-t-clause-known t c =
    let known = lacks_signature (names_of c.loop-t.into) in
    let whole : take c.loop-t.t-index c.deref-t-items.result.now ≡ c.deref-t-items.result.now = take_all c.loop-t.t-index c.deref-t-items.result.now (omega arith) in
    let all : count_items known c.deref-t-items.result.now ≡ 0 = rw whole at c.loop-t.invariant.known in
    grind (arith, count-Seq known c.in-Seq.txs, all)

pub returns-in-When-clause-known : goal.returns-in-When-clause-known
returns-in-When-clause-known t c =
    let first = signatures_kept _ _ c.collect-in-When-2.ensures.kept _ c.collect-in-When.ensures.known in
    let second = c.collect-in-When-2.ensures.known in
    grind (arith, first, second)

pub returns-in-OrElse-clause-known : goal.returns-in-OrElse-clause-known
returns-in-OrElse-clause-known t c =
    let first = signatures_kept _ _ c.collect-in-OrElse-2.ensures.kept _ c.collect-in-OrElse.ensures.known in
    let second = c.collect-in-OrElse-2.ensures.known in
    grind (arith, first, second)

pub returns-in-When-clause-kept : goal.returns-in-When-clause-kept
returns-in-When-clause-kept t c = λ name there. c.collect-in-When-2.ensures.kept name (c.collect-in-When.ensures.kept name there)

pub returns-in-When-clause-room : goal.returns-in-When-clause-room
returns-in-When-clause-room t c =
    let two = when_two c.args.tx.now c.in-When.reg c.in-When.then c.in-When.other c.in-When.is in
    omega (arith, two.counts is_check, rw c.deref.ensures at c.collect-in-When.ensures.room, rw c.deref-in-When.ensures at c.collect-in-When-2.ensures.room)

pub returns-in-When-clause-among : goal.returns-in-When-clause-among
returns-in-When-clause-among t c = λ all. c.collect-in-When-2.ensures.among (c.collect-in-When.ensures.among all)

pub returns-in-When-clause-checked : goal.returns-in-When-clause-checked
returns-in-When-clause-checked t c = λ name.
    let two = when_two c.args.tx.now c.in-When.reg c.in-When.then c.in-When.other c.in-When.is in
    omega (arith, two.counts (checks_name name), rw c.deref.ensures at c.collect-in-When.ensures.checked name, rw c.deref-in-When.ensures at c.collect-in-When-2.ensures.checked name)

pub returns-in-When-clause-once : goal.returns-in-When-clause-once
returns-in-When-clause-once t c = λ distinct. c.collect-in-When-2.ensures.once (c.collect-in-When.ensures.once distinct)

pub returns-in-OrElse-clause-kept : goal.returns-in-OrElse-clause-kept
returns-in-OrElse-clause-kept t c = λ name there. c.collect-in-OrElse-2.ensures.kept name (c.collect-in-OrElse.ensures.kept name there)

pub returns-in-OrElse-clause-room : goal.returns-in-OrElse-clause-room
returns-in-OrElse-clause-room t c =
    let two = or_else_two c.args.tx.now c.in-OrElse.first c.in-OrElse.second c.in-OrElse.is in
    omega (arith, two.counts is_check, rw c.deref-in-OrElse.ensures at c.collect-in-OrElse.ensures.room, rw c.deref-in-OrElse-2.ensures at c.collect-in-OrElse-2.ensures.room)

pub returns-in-OrElse-clause-among : goal.returns-in-OrElse-clause-among
returns-in-OrElse-clause-among t c = λ all. c.collect-in-OrElse-2.ensures.among (c.collect-in-OrElse.ensures.among all)

pub returns-in-OrElse-clause-checked : goal.returns-in-OrElse-clause-checked
returns-in-OrElse-clause-checked t c = λ name.
    let two = or_else_two c.args.tx.now c.in-OrElse.first c.in-OrElse.second c.in-OrElse.is in
    omega (arith, two.counts (checks_name name), rw c.deref-in-OrElse.ensures at c.collect-in-OrElse.ensures.checked name, rw c.deref-in-OrElse-2.ensures at c.collect-in-OrElse-2.ensures.checked name)

pub returns-in-OrElse-clause-once : goal.returns-in-OrElse-clause-once
returns-in-OrElse-clause-once t c = λ distinct. c.collect-in-OrElse-2.ensures.once (c.collect-in-OrElse.ensures.once distinct)
