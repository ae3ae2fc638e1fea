use Rattle.std.proofs.lemmas.Result.{on_ok_weaker}
use Rattle.tmem_desk.specs.Held.{desk_view}
use Rattle.tmem_desk.specs.Asking.{store}
use Rattle.tmem_desk.proofs.Losing.{all_part, each_text, handed}
use Rattle.tmem_desk.proofs.desk.Desk.run.Goals as goal

pub returns-clause-durable : goal.returns-clause-durable
returns-clause-durable g c = on_ok_weaker c.finish.result (λ f. f.all) c.finish.ensures.ok

pub returns-clause-runs : goal.returns-clause-runs
returns-clause-runs g c = on_ok_weaker c.finish.result (λ f text stands. record { taken = desk_view c.take_lines.new.self; takes = c.in_ok-take_lines.ensures.ok text stands; finishes = f }) c.finish.ensures.ok

pub returns-in_err-take_lines-clause-err : goal.returns-in_err-take_lines-clause-err
returns-in_err-take_lines-clause-err g c = handed c.from_residual.result c.in_err-take_lines.field-0.0 _ c.from_residual.ensures.1 c.in_err-take_lines.ensures.err

pub returns-clause-err : goal.returns-clause-err
returns-clause-err g c =
    each_text c.finish.result
    (λ text stands keeps. all_part (store g.N.Naming.name.start g.N.StoreNaming.opening g.N.ProgramNaming.program g.N.ServedNaming.arities g.N.ServedNaming.always) text c.take_lines.new.lines (desk_view c.args.self.now) (desk_view c.take_lines.new.self) (desk_view c.finish.new.self) (c.in_ok-take_lines.ensures.ok text stands) keeps)
    c.finish.ensures.err
