use Rattle.std.proofs.Common.{rules}
use Rattle.tmem_invariants.specs.TableNames.{AreBelow}
use Rattle.tmem_invariants.proofs.Laws.{All-take_more, All_whole}
use Rattle.tmem_tables.proofs.entries.are_within.Goals as goal

pub loop-entry-preserved : goal.loop-entry-preserved
loop-entry-preserved g c =
    All-take_more c.args.entries.now (λ entry. AreBelow c.args.vars (g.E.TableEntry.footprint entry)) c.loop-entry.entry-index c.entry-item.result c.loop-entry-test.true c.entry-item.is c.loop-entry.invariant (c.is_within.ensures.0 c.if-not-is_within.false)

pub returns : goal.returns
returns g c = (
  λ yes. All_whole c.args.entries.now (λ entry. AreBelow c.args.vars (g.E.TableEntry.footprint entry)) c.loop-entry.entry-index c.loop-entry-test.false c.loop-entry.invariant,
  λ all. search rules,
)
