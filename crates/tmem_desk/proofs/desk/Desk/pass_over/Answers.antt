use Rattle.std.proofs.Common.{ℕ, List, subst}
use Rattle.std.proofs.lemmas.Result.{err_from_is_err_and}
use Rattle.tmem_desk.specs.Asking.{store}
use Rattle.tmem_desk.specs.Failing.{PassesShort}
use Rattle.tmem_desk.specs.Held.{desk_view}
use Rattle.tmem_desk.proofs.Losing.{handed, line_passes, long_passes, passes_all, passes_more, passes_none}
use Rattle.tmem_desk.proofs.desk.Desk.pass_over.Goals as goal

pub loop-init : goal.loop-init
loop-init g c text stands = passes_none (store g.N.Naming.name.start g.N.StoreNaming.opening g.N.ProgramNaming.program g.N.ServedNaming.arities g.N.ServedNaming.always) text c.args.lines.now (desk_view c.args.self.now) stands

pub loop-preserved-in-Continue-1 : goal.loop-preserved-in-Continue-1
loop-preserved-in-Continue-1 g c text stands =
    let s = (store g.N.Naming.name.start g.N.StoreNaming.opening g.N.ProgramNaming.program g.N.ServedNaming.arities g.N.ServedNaming.always) in
    let v = desk_view c.args.self.now in
    let mid = desk_view c.loop.self in
    let w = desk_view c.pass_line_over.new.self in
    let so = c.loop.invariant text stands in
    let next = c.cut.ensures.line c.in-Line.is so.rest so.stands in
    passes_more s text c.cut.new.self.line c.loop.lines c.cut.new.self v mid w so next.0 (line_passes s c.cut.new.self.line mid w next.1 (subst (λ (t : List ℕ). PassesShort s t mid w) c.line.ensures c.in_ok-pass_line_over-in-Line.ensures.ok))

pub loop-preserved : goal.loop-preserved
loop-preserved g c text stands =
    let s = (store g.N.Naming.name.start g.N.StoreNaming.opening g.N.ProgramNaming.program g.N.ServedNaming.arities g.N.ServedNaming.always) in
    let v = desk_view c.args.self.now in
    let mid = desk_view c.loop.self in
    let w = desk_view c.take_long_line.new.self in
    let so = c.loop.invariant text stands in
    let next = c.cut.ensures.long c.in-TooLong.is so.rest so.stands in
    passes_more s text next.0 c.loop.lines c.cut.new.self v mid w so next.1 (long_passes s next.0 mid w next.2 c.in_ok-take_long_line-in-TooLong.ensures.ok)

pub returns-in-Nothing-clause-ok : goal.returns-in-Nothing-clause-ok
returns-in-Nothing-clause-ok g c text stands =
    let so = c.loop.invariant text stands in
    let none = c.cut.ensures.nothing c.in-Nothing.is so.rest so.stands in
    passes_all (store g.N.Naming.name.start g.N.StoreNaming.opening g.N.ProgramNaming.program g.N.ServedNaming.arities g.N.ServedNaming.always) text c.loop.lines c.cut.new.self (desk_view c.args.self.now) (desk_view c.loop.self) so none.0 none.1

pub returns-in_err-pass_line_over-in-Line-clause-err : goal.returns-in_err-pass_line_over-in-Line-clause-err
returns-in_err-pass_line_over-in-Line-clause-err g c = handed c.from_residual.result c.in_err-pass_line_over-in-Line.field-0.0 _ c.from_residual.ensures.1 c.in_err-pass_line_over-in-Line.ensures.err

pub returns-in_err-take_long_line-in-TooLong-clause-err : goal.returns-in_err-take_long_line-in-TooLong-clause-err
returns-in_err-take_long_line-in-TooLong-clause-err g c =
    handed c.from_residual-in_err-take_long_line-in-TooLong.result c.in_err-take_long_line-in-TooLong.field-0.0 _ c.from_residual-in_err-take_long_line-in-TooLong.ensures.1 c.in_err-take_long_line-in-TooLong.ensures.err

pub returns-in_err-pass_line_over-in-Line-clause-ok : goal.returns-in_err-pass_line_over-in-Line-clause-ok
returns-in_err-pass_line_over-in-Line-clause-ok g c = rw (err_from_is_err_and c.from_residual.result c.from_residual.ensures.1).1 tt

pub returns-in_err-take_long_line-in-TooLong-clause-ok : goal.returns-in_err-take_long_line-in-TooLong-clause-ok
returns-in_err-take_long_line-in-TooLong-clause-ok g c = rw (err_from_is_err_and c.from_residual-in_err-take_long_line-in-TooLong.result c.from_residual-in_err-take_long_line-in-TooLong.ensures.1).1 tt
