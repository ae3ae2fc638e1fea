use Rattle.std.proofs.Common.{◌≡◌, Some, length, rules, arith}
use Rattle.tmem_fault.specs.declared.fault.Cause.{Cause}
use Rattle.tmem_tree.specs.declared.tx.Tx.{Tx}
use Rattle.tmem_explain.specs.Limits.{BreaksLimit, HasFlaw, TellsLimit, begun_at}
use Rattle.tmem_explain.proofs.Limited.{begun_within, each_more, still_told}
use Rattle.tmem_explain.proofs.limits.note_plans.Goals as goal

pub loop-i-preserved : goal.loop-i-preserved
loop-i-preserved c =
    let script = c.args.script.now in
    let flaws = c.note_entry.new.flaws.items in
    record {
      only = λ all. c.in_ok-note_entry.ensures.only (c.loop-i.invariant.only all);
      kept = λ flaw there. c.in_ok-note_entry.ensures.kept flaw (c.loop-i.invariant.kept flaw there);
      each = λ i tx cause below begun breaks.
          each_more (λ i. (tx : Tx) (cause : Cause) → begun_at script.entries.items i ≡ Some tx → BreaksLimit script.vars tx cause → HasFlaw (TellsLimit script.vars i tx cause) flaws) c.loop-i.i
          (λ i before tx cause begun breaks. still_told _ _ _ c.in_ok-note_entry.ensures.kept (c.loop-i.invariant.each i tx cause before begun breaks))
          c.in_ok-note_entry.ensures.each i below tx cause begun breaks;
    }

pub returns-clause-each : goal.returns-clause-each
returns-clause-each c = λ i tx cause begun breaks.
    let entries = c.args.script.now.entries.items in
    let long : c.len-i-end.result ≡ length entries = search rules in
    c.loop-i.invariant.each i tx cause (omega (arith, begun_within entries i tx begun, c.loop-i-test.false, long)) begun breaks
