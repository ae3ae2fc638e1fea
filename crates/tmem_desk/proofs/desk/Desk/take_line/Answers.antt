use Rattle.std.proofs.Common.{w64, inl, inr, refl}
use Rattle.std.proofs.lemmas.Int.{to_z-of_z}
use Rattle.std.proofs.lemmas.Result.{on_ok_weaker}
use Rattle.tmem_desk.specs.Asking.{store}
use Rattle.tmem_desk.specs.Held.{desk_view}
use Rattle.tmem_desk.specs.Serving.{one_line_more}
use Rattle.tmem_desk.proofs.Answering.{takes_as}
use Rattle.tmem_desk.proofs.Losing.{answers_line, err_or_memory, memory_only}
use Rattle.tmem_desk.proofs.desk.Desk.take_line.Goals as goal

pub returns-in-Ok-clause-ok : goal.returns-in-Ok-clause-ok
returns-in-Ok-clause-ok g c =
    on_ok_weaker c.take_or_fail.result
    (λ taken.
    inl (record {
      id = c.in-Ok.request.id;
      ask = c.in-Ok.request.ask;
      is = c.in-Ok.ensures.request;
      takes =
          takes_as (store g.N.Naming.name.start g.N.StoreNaming.opening g.N.ProgramNaming.program g.N.ServedNaming.arities g.N.ServedNaming.always) c.in-Ok.request.id _ c.in-Ok.request.ask c.in-Ok.request.ask (one_line_more (desk_view c.args.self.now)) (desk_view c.take_or_fail.new.self)
          (to_z-of_z w64 c.in-Ok.request.id c.in-Ok.ensures.request.0.request.numbered.is.fits) refl taken;
    }))
    c.take_or_fail.ensures.ok

pub returns-in-Err-NoRequest-clause-ok : goal.returns-in-Err-NoRequest-clause-ok
returns-in-Err-NoRequest-clause-ok g c =
    on_ok_weaker c.refuse.result
    (λ is. inr (record { none = (rw c.in-Err-NoRequest.field-0-is at c.in-Err-NoRequest.ensures.none) tt; refusal = c.in-Err-NoRequest.refusal; reason = rw c.in-Err-NoRequest.field-0-is at c.in-Err-NoRequest.ensures.why; is = is })) c.refuse.ensures.ok

pub returns-in-Ok-clause-err : goal.returns-in-Ok-clause-err
returns-in-Ok-clause-err g c =
    err_or_memory c.take_or_fail.result
    (answers_line (store g.N.Naming.name.start g.N.StoreNaming.opening g.N.ProgramNaming.program g.N.ServedNaming.arities g.N.ServedNaming.always) c.args.text.now c.in-Ok.request.id _ c.in-Ok.request.ask (desk_view c.args.self.now) (desk_view c.take_or_fail.new.self)
    (to_z-of_z w64 c.in-Ok.request.id c.in-Ok.ensures.request.0.request.numbered.is.fits) c.in-Ok.ensures.request)
    c.take_or_fail.ensures.err

pub returns-in-Err-NoRequest-clause-err : goal.returns-in-Err-NoRequest-clause-err
returns-in-Err-NoRequest-clause-err g c = memory_only _ c.refuse.result c.refuse.ensures.err
