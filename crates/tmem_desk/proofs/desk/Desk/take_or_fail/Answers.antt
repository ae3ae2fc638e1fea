use Rattle.std.proofs.Common.{w64, refl}
use Rattle.std.proofs.lemmas.Int.{to_z-of_z}
use Rattle.std.proofs.lemmas.Result.{IfOk-from_err}
use Rattle.tmem_desk.specs.Asking.{store}
use Rattle.tmem_desk.specs.Held.{desk_view}
use Rattle.tmem_desk.proofs.Answering.{takes_as}
use Rattle.tmem_desk.proofs.Losing.{answers_only}
use Rattle.tmem_desk.proofs.desk.Desk.take_or_fail.Goals as goal

pub returns-in-Ok-clause-ok : goal.returns-in-Ok-clause-ok
returns-in-Ok-clause-ok g c = takes_as (store g.N.Naming.name.start g.N.StoreNaming.opening g.N.ProgramNaming.program g.N.ServedNaming.arities g.N.ServedNaming.always) c.args.id _ c.args.ask c.args.ask (desk_view c.args.self.now) (desk_view c.take.new.self) (to_z-of_z w64 c.args.id c.ranges.id) refl c.in-Ok.ensures.ok

pub returns-in-Err-clause-ok : goal.returns-in-Err-clause-ok
returns-in-Err-clause-ok g c = IfOk-from_err c.tell_fault.result _ c.tell_fault.ensures.never

pub returns-in-Err-clause-err : goal.returns-in-Err-clause-err
returns-in-Err-clause-err g c =
    answers_only c.args.id _ c.in-Err.fault (desk_view c.args.self.now) (desk_view c.take.new.self) (desk_view c.tell_fault.new.self) c.tell_fault.result (to_z-of_z w64 c.args.id c.ranges.id) c.in-Err.ensures.err c.tell_fault.ensures.err
