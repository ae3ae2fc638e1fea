use Rattle.std.proofs.lemmas.Result.{on_ok_weaker}
use Rattle.tmem_desk.specs.Held.{desk_view}
use Rattle.std.proofs.Common.{inr}
use Rattle.tmem_desk.specs.Asking.{store}
use Rattle.tmem_desk.proofs.Losing.{any_err, handed, woken_until}
use Rattle.tmem_desk.proofs.desk.Desk.finish.Goals as goal

pub returns-clause-ok : goal.returns-clause-ok
returns-clause-ok g c =
    on_ok_weaker c.harden.result
    (λ all. record { woken = desk_view c.wake.new.self; wakes = c.in_ok-wake.ensures.ok; sees = c.harden.ensures.sees; all = all; is = c.harden.ensures.desk })
    c.harden.ensures.all

pub returns-in_err-wake-clause-err : goal.returns-in_err-wake-clause-err
returns-in_err-wake-clause-err g c = handed c.from_residual.result c.in_err-wake.field-0.0 _ c.from_residual.ensures.1 c.in_err-wake.ensures.err

pub returns-clause-err : goal.returns-clause-err
returns-clause-err g c =
    any_err c.harden.result _
    (λ f. inr (woken_until (store g.N.Naming.name.start g.N.StoreNaming.opening g.N.ProgramNaming.program g.N.ServedNaming.arities g.N.ServedNaming.always) (desk_view c.args.self.now) (desk_view c.wake.new.self) (desk_view c.harden.new.self) c.in_ok-wake.ensures.ok c.harden.ensures.desk c.harden.ensures.sees))
