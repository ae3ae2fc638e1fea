use Rattle.std.proofs.Common.{sym, ◌∙◌, arith}
use Rattle.tmem_explain.proofs.Limited.{begun_here, begun_past}
use Rattle.tmem_explain.proofs.plan.begun_at.Goals as goal

pub returns-then-index-entries : goal.returns-then-index-entries
returns-then-index-entries c = sym (begun_past c.args.entries.now c.args.index (omega arith))

pub returns : goal.returns
returns c =
    c.begun_by.ensures ∙ sym (begun_here c.args.entries.now c.args.index c.index-entries-index.result c.if-index-entries.false c.index-entries-index.is)
