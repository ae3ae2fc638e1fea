use Rattle.std.proofs.Common.{List, ap, subst}
use Rattle.std.specs.Io.KnownBytes.{Appends}
use Rattle.tmem_desk.specs.Failing.{IsUnprinted}
use Rattle.tmem_desk.specs.Held.{desk_view}
use Rattle.tmem_desk.specs.declared.told.Told.{Told}
use Rattle.tmem_desk.proofs.Losing.{handed}
use Rattle.tmem_desk.proofs.desk.Desk.give.Goals as goal

pub returns-clause-desk : goal.returns-clause-desk
returns-clause-desk g c = ap (λ (ts : List Told). record (desk_view c.args.self.now) { told = ts }) c.clear.ensures.items

pub returns-in_err-print-clause-err : goal.returns-in_err-print-clause-err
returns-in_err-print-clause-err g c = handed c.from_residual.result c.in_err-print.field-0.0 _ c.from_residual.ensures.1 (subst (λ (all : List Told). IsUnprinted (Appends (g.W.Write.contents c.args.out.now) (g.W.Write.contents c.print.new.out)) all c.in_err-print.field-0.0) c.deref.ensures.value c.in_err-print.ensures.err)
