use Rattle.std.specs.Io.KnownBytes.{Appends}
use Rattle.tmem_desk.specs.Asking.{store}
use Rattle.tmem_desk.specs.Held.{desk_view}
use Rattle.std.proofs.lemmas.Result.{IfOk-from_err}
use Rattle.tmem_desk.proofs.Giving.{ends_unprinted, on_ok_both, serves_end}
use Rattle.std.proofs.Common.{inl, ℕ, List}
use Rattle.tmem_desk.specs.Serving.{RunsEnd}
use Rattle.tmem_desk.specs.Failing.{IsLast}
use Rattle.tmem_desk.specs.declared.failure.DeskFailure.TheVariants as failure
use Rattle.tmem_desk.proofs.Losing.{end_fails, handed, unprinted_texts}
use Rattle.tmem_desk.proofs.desk.Desk.end.Goals as goal

pub returns-in_ok-close_waiting-in-Ok-clause-serves : goal.returns-in_ok-close_waiting-in-Ok-clause-serves
returns-in_ok-close_waiting-in-Ok-clause-serves g c =
    on_ok_both c.give.result
    (λ printed is text stands. serves_end (store g.N.Naming.name.start g.N.StoreNaming.opening g.N.ProgramNaming.program g.N.ServedNaming.arities g.N.ServedNaming.always) text (desk_view c.args.self.now) (desk_view c.run_last.new.self) (desk_view c.close_waiting.new.self) (desk_view c.give.new.self) (Appends (g.W.Write.contents c.args.out.now) (g.W.Write.contents c.give.new.out)) (c.in-Ok.ensures.runs text stands) c.in_ok-close_waiting-in-Ok.ensures.told printed is)
    c.give.ensures.printed c.give.ensures.desk

pub returns-in_ok-close_waiting-in-Ok-clause-told : goal.returns-in_ok-close_waiting-in-Ok-clause-told
returns-in_ok-close_waiting-in-Ok-clause-told g c =
    unprinted_texts _ (store g.N.Naming.name.start g.N.StoreNaming.opening g.N.ProgramNaming.program g.N.ServedNaming.arities g.N.ServedNaming.always) IsLast (λ (text : List ℕ). RunsEnd (store g.N.Naming.name.start g.N.StoreNaming.opening g.N.ProgramNaming.program g.N.ServedNaming.arities g.N.ServedNaming.always) text (desk_view c.args.self.now)) (desk_view c.args.self.now) (desk_view c.close_waiting.new.self) (desk_view c.give.new.self) (Appends (g.W.Write.contents c.args.out.now) (g.W.Write.contents c.give.new.out)) c.give.result
    (λ text stands. record { ran = desk_view c.run_last.new.self; runs = c.in-Ok.ensures.runs text stands; is = c.in_ok-close_waiting-in-Ok.ensures.told }) c.give.ensures.pass c.give.ensures.err

pub returns-in_err-close_waiting-in-Ok-clause-told : goal.returns-in_err-close_waiting-in-Ok-clause-told
returns-in_err-close_waiting-in-Ok-clause-told g c = handed c.from_residual.result (failure.Fault c.in_err-close_waiting-in-Ok.field-0.0) _ c.from_residual.ensures.1 (λ text stands. inl c.in_err-close_waiting-in-Ok.ensures.err)

pub returns-in-Err-clause-told : goal.returns-in-Err-clause-told
returns-in-Err-clause-told g c =
    end_fails c.fail.result (store g.N.Naming.name.start g.N.StoreNaming.opening g.N.ProgramNaming.program g.N.ServedNaming.arities g.N.ServedNaming.always) c.run_last.new.lines c.fail.new.lines (λ (text : List ℕ). RunsEnd (store g.N.Naming.name.start g.N.StoreNaming.opening g.N.ProgramNaming.program g.N.ServedNaming.arities g.N.ServedNaming.always) text (desk_view c.args.self.now)) (desk_view c.args.self.now) (desk_view c.run_last.new.self) (desk_view c.fail.new.self) (Appends (g.W.Write.contents c.args.out.now) (g.W.Write.contents c.fail.new.out)) c.in-Err.fault c.in-Err.ensures.err c.run_last.ensures.rest c.fail.ensures.memory c.fail.ensures.told

pub returns-in_ok-close_waiting-in-Ok-clause-ends : goal.returns-in_ok-close_waiting-in-Ok-clause-ends
returns-in_ok-close_waiting-in-Ok-clause-ends g c = c.give.ensures.ends

pub returns-in_err-close_waiting-in-Ok-clause-ends : goal.returns-in_err-close_waiting-in-Ok-clause-ends
returns-in_err-close_waiting-in-Ok-clause-ends g c = ends_unprinted c.from_residual.result (g.W.Write.contents c.args.out.now)

pub returns-in-Err-clause-ends : goal.returns-in-Err-clause-ends
returns-in-Err-clause-ends g c = c.fail.ensures.ends

pub returns-in-Err-clause-serves : goal.returns-in-Err-clause-serves
returns-in-Err-clause-serves g c = IfOk-from_err c.fail.result _ c.fail.ensures.never
