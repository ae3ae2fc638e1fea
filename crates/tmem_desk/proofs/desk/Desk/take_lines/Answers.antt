use Rattle.std.proofs.Common.{ℕ, List, subst, inl}
use Rattle.std.proofs.lemmas.Result.{err_from_is_err_and}
use Rattle.tmem_desk.specs.Asking.{store}
use Rattle.tmem_desk.specs.Held.{desk_view}
use Rattle.tmem_desk.specs.Serving.{TakesShort}
use Rattle.tmem_desk.proofs.Taking.{takes_none, takes_more, takes_all, short_text, long_text}
use Rattle.tmem_desk.specs.Failing.{AnswersLine}
use Rattle.tmem_desk.proofs.Losing.{handed, or_memory, part_answered}
use Rattle.tmem_desk.proofs.desk.Desk.take_lines.Goals as goal

pub loop-init : goal.loop-init
loop-init g c text stands = takes_none (store g.N.Naming.name.start g.N.StoreNaming.opening g.N.ProgramNaming.program g.N.ServedNaming.arities g.N.ServedNaming.always) text c.args.lines.now (desk_view c.args.self.now) stands

pub loop-preserved-in-Continue-1 : goal.loop-preserved-in-Continue-1
loop-preserved-in-Continue-1 g c text stands =
    let so = c.loop.invariant text stands in
    let next = c.cut.ensures.line c.in-Line.is so.rest so.stands in
    takes_more (store g.N.Naming.name.start g.N.StoreNaming.opening g.N.ProgramNaming.program g.N.ServedNaming.arities g.N.ServedNaming.always) text c.cut.new.self.line c.loop.lines c.cut.new.self (desk_view c.args.self.now) (desk_view c.loop.self) (desk_view c.take_line.new.self) so next.0
    (short_text (store g.N.Naming.name.start g.N.StoreNaming.opening g.N.ProgramNaming.program g.N.ServedNaming.arities g.N.ServedNaming.always) c.cut.new.self.line (desk_view c.loop.self) (desk_view c.take_line.new.self) next.1
    (subst (λ (t : List ℕ). TakesShort (store g.N.Naming.name.start g.N.StoreNaming.opening g.N.ProgramNaming.program g.N.ServedNaming.arities g.N.ServedNaming.always) t (desk_view c.loop.self) (desk_view c.take_line.new.self)) c.line.ensures c.in_ok-take_line-in-Line.ensures.ok))

pub loop-preserved : goal.loop-preserved
loop-preserved g c text stands =
    let so = c.loop.invariant text stands in
    let next = c.cut.ensures.long c.in-TooLong.is so.rest so.stands in
    takes_more (store g.N.Naming.name.start g.N.StoreNaming.opening g.N.ProgramNaming.program g.N.ServedNaming.arities g.N.ServedNaming.always) text next.0 c.loop.lines c.cut.new.self (desk_view c.args.self.now) (desk_view c.loop.self) (desk_view c.take_long_line.new.self) so next.1
    (long_text (store g.N.Naming.name.start g.N.StoreNaming.opening g.N.ProgramNaming.program g.N.ServedNaming.arities g.N.ServedNaming.always) next.0 (desk_view c.loop.self) (desk_view c.take_long_line.new.self) next.2 c.in_ok-take_long_line-in-TooLong.ensures.ok)

pub returns-in-Nothing-clause-ok : goal.returns-in-Nothing-clause-ok
returns-in-Nothing-clause-ok g c text stands =
    let so = c.loop.invariant text stands in
    let none = c.cut.ensures.nothing c.in-Nothing.is so.rest so.stands in
    takes_all (store g.N.Naming.name.start g.N.StoreNaming.opening g.N.ProgramNaming.program g.N.ServedNaming.arities g.N.ServedNaming.always) text c.loop.lines c.cut.new.self (desk_view c.args.self.now) (desk_view c.loop.self) so none.0 none.1

pub returns-in_err-take_line-in-Line-clause-err : goal.returns-in_err-take_line-in-Line-clause-err
returns-in_err-take_line-in-Line-clause-err g c =
    handed c.from_residual.result c.in_err-take_line-in-Line.field-0.0 _ c.from_residual.ensures.1
    (λ text stands.
    let s = (store g.N.Naming.name.start g.N.StoreNaming.opening g.N.ProgramNaming.program g.N.ServedNaming.arities g.N.ServedNaming.always) in
    let v = desk_view c.args.self.now in
    let mid = desk_view c.loop.self in
    let w = desk_view c.take_line.new.self in
    let so = c.loop.invariant text stands in
    let next = c.cut.ensures.line c.in-Line.is so.rest so.stands in
    or_memory c.in_err-take_line-in-Line.field-0.0
    (λ a. part_answered s text c.cut.new.self.line c.loop.lines c.cut.new.self v mid w so next.0 next.1 (subst (λ (t : List ℕ). AnswersLine s t mid w) c.line.ensures a))
    c.in_err-take_line-in-Line.ensures.err)

pub returns-in_err-take_long_line-in-TooLong-clause-err : goal.returns-in_err-take_long_line-in-TooLong-clause-err
returns-in_err-take_long_line-in-TooLong-clause-err g c =
    handed c.from_residual-in_err-take_long_line-in-TooLong.result c.in_err-take_long_line-in-TooLong.field-0.0 _ c.from_residual-in_err-take_long_line-in-TooLong.ensures.1
    (λ text stands. inl c.in_err-take_long_line-in-TooLong.ensures.err)

pub returns-in_err-take_line-in-Line-clause-ok : goal.returns-in_err-take_line-in-Line-clause-ok
returns-in_err-take_line-in-Line-clause-ok g c = rw (err_from_is_err_and c.from_residual.result c.from_residual.ensures.1).1 tt

pub returns-in_err-take_long_line-in-TooLong-clause-ok : goal.returns-in_err-take_long_line-in-TooLong-clause-ok
returns-in_err-take_long_line-in-TooLong-clause-ok g c = rw (err_from_is_err_and c.from_residual-in_err-take_long_line-in-TooLong.result c.from_residual-in_err-take_long_line-in-TooLong.ensures.1).1 tt
