use Rattle.std.proofs.Common.{rules, IsTrue}
use Rattle.tmem_init.proofs.Begun.{behind_first, stands_closed, while_putting}
use Rattle.tmem_init.proofs.placing.put_on.Goals as goal

pub returns-in_err-put_cell-clause-any_moment : goal.returns-in_err-put_cell-clause-any_moment
returns-in_err-put_cell-clause-any_moment g c =
    let yes : IsTrue c.in_ok-is_blank_for.field-0 = search rules in
    let content = c.args.content.now in
    let old = g.D.Disk.view c.args.disk.now in
    let mid = g.D.Disk.view c.is_blank_for.new.disk in
    let device = g.met.D.Disk.is_device c.args.disk.now in
    let closed = stands_closed content c.requires.some old mid device c.is_blank_for.ensures.model c.is_blank_for.ensures.reads_only c.requires.synced (λ k. (c.in_ok-is_blank_for.ensures.blank k).0 yes) in
    while_putting content c.requires.some old mid device c.is_blank_for.ensures.model c.is_blank_for.ensures.reads_only _ (behind_first content) (g.D.Disk.view c.put_cell.new.disk) c.put_cell.ensures.uses.model closed _ c.put_cell.ensures.puts

pub returns-clause-any_moment : goal.returns-clause-any_moment
returns-clause-any_moment g c =
    let yes : IsTrue c.in_ok-is_blank_for.field-0 = search rules in
    let content = c.args.content.now in
    let old = g.D.Disk.view c.args.disk.now in
    let mid = g.D.Disk.view c.is_blank_for.new.disk in
    let device = g.met.D.Disk.is_device c.args.disk.now in
    let closed = stands_closed content c.requires.some old mid device c.is_blank_for.ensures.model c.is_blank_for.ensures.reads_only c.requires.synced (λ k. (c.in_ok-is_blank_for.ensures.blank k).0 yes) in
    while_putting content c.requires.some old mid device c.is_blank_for.ensures.model c.is_blank_for.ensures.reads_only _ (behind_first content) (g.D.Disk.view c.put_cell.new.disk) c.put_cell.ensures.uses.model closed _ c.put_cell.ensures.puts
