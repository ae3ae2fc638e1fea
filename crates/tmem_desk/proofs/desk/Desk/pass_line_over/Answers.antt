use Rattle.std.proofs.Common.{w64, inl, inr}
use Rattle.std.proofs.lemmas.Int.{to_z-of_z}
use Rattle.std.proofs.lemmas.Result.{on_ok_weaker}
use Rattle.tmem_fault.specs.declared.fault.Fault.TheVariants.{Closed}
use Rattle.tmem_desk.specs.Asking.{store}
use Rattle.tmem_desk.specs.Held.{desk_view}
use Rattle.tmem_desk.proofs.Losing.{passed_over}
use Rattle.tmem_desk.proofs.desk.Desk.pass_line_over.Goals as goal

pub returns-in-Ok-clause-ok : goal.returns-in-Ok-clause-ok
returns-in-Ok-clause-ok g c =
    on_ok_weaker c.tell.result
    (λ is.
    inl (passed_over (store g.N.Naming.name.start g.N.StoreNaming.opening g.N.ProgramNaming.program g.N.ServedNaming.arities g.N.ServedNaming.always) c.args.text.now c.in-Ok.request.id _ c.in-Ok.request.ask Closed (desk_view c.args.self.now) (desk_view c.tell.new.self)
    (to_z-of_z w64 c.in-Ok.request.id c.in-Ok.ensures.request.0.request.numbered.is.fits) c.in-Ok.ensures.request is))
    c.tell.ensures.ok

pub returns-in-Err-NoRequest-clause-ok : goal.returns-in-Err-NoRequest-clause-ok
returns-in-Err-NoRequest-clause-ok g c =
    on_ok_weaker c.refuse.result
    (λ is. inr (record { none = (rw c.in-Err-NoRequest.field-0-is at c.in-Err-NoRequest.ensures.none) tt; refusal = c.in-Err-NoRequest.refusal; reason = rw c.in-Err-NoRequest.field-0-is at c.in-Err-NoRequest.ensures.why; is = is })) c.refuse.ensures.ok
