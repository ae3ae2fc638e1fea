use Rattle.std.proofs.Common.{arith}
use Rattle.tmem_desk.proofs.Subtrees.{falls_to_item}
use Rattle.tmem_desk.proofs.LeadingPuts.{is_puts-Seq, first_puts-Seq}
use Rattle.tmem_desk.proofs.leading.+puts_left.Goals as goal

pub loop-t-init : goal.loop-t-init
loop-t-init t c = record {
  left = grind (arith, first_puts-Seq c.in-Seq.txs);
  puts = grind (arith, is_puts-Seq c.in-Seq.txs);
}

pub puts_left-rest-requires : goal.puts_left-rest-requires
puts_left-rest-requires t c = (falls_to_item c.args.tx.now c.in-Seq.txs c.deref-t-items.result.now c.loop-t.t-index c.t-item.result t c.in-Seq.is c.deref-t-items.ensures.value c.loop-t-test.true c.t-item.is c.decreases, tt)
