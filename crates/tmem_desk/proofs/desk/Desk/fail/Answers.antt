use Rattle.std.proofs.Common.{inl}
use Rattle.std.proofs.lemmas.Result.{IfErr-weaker}
use Rattle.tmem_desk.specs.Held.{desk_view}
use Rattle.tmem_desk.specs.declared.failure.DeskFailure.TheVariants as failure
use Rattle.tmem_desk.proofs.Giving.{ends_unprinted}
use Rattle.tmem_desk.proofs.Losing.{handed}
use Rattle.tmem_desk.proofs.desk.Desk.fail.Goals as goal

pub returns-clause-memory : goal.returns-clause-memory
returns-clause-memory g c = λ wanting. c.give_last.ensures.memory (c.why_ended-fault.ensures.memory wanting)

pub returns-clause-told : goal.returns-clause-told
returns-clause-told g c = IfErr-weaker c.give_last.result _ _ (λ e tells text stands. tells text c.pass_over.new.lines (desk_view c.args.self.now) (desk_view c.pass_over.new.self) (c.in_ok-pass_over.ensures.ok text stands) c.in_ok-close_waiting.ensures.told) c.give_last.ensures.told

pub returns-in_err-pass_over-clause-told : goal.returns-in_err-pass_over-clause-told
returns-in_err-pass_over-clause-told g c = handed c.from_residual.result (failure.Fault c.in_err-pass_over.field-0.0) _ c.from_residual.ensures.1 (λ text stands. inl c.in_err-pass_over.ensures.err)

pub returns-in_err-pass_over-clause-memory : goal.returns-in_err-pass_over-clause-memory
returns-in_err-pass_over-clause-memory g c = λ wanting. handed c.from_residual.result (failure.Fault c.in_err-pass_over.field-0.0) _ c.from_residual.ensures.1 c.in_err-pass_over.ensures.err

pub returns-in_err-close_waiting-clause-told : goal.returns-in_err-close_waiting-clause-told
returns-in_err-close_waiting-clause-told g c = handed c.from_residual-in_err-close_waiting.result (failure.Fault c.in_err-close_waiting.field-0.0) _ c.from_residual-in_err-close_waiting.ensures.1 (λ text stands. inl c.in_err-close_waiting.ensures.err)

pub returns-in_err-close_waiting-clause-memory : goal.returns-in_err-close_waiting-clause-memory
returns-in_err-close_waiting-clause-memory g c = λ wanting. handed c.from_residual-in_err-close_waiting.result (failure.Fault c.in_err-close_waiting.field-0.0) _ c.from_residual-in_err-close_waiting.ensures.1 c.in_err-close_waiting.ensures.err

pub returns-clause-ends : goal.returns-clause-ends
returns-clause-ends g c = c.give_last.ensures.ends

pub returns-in_err-pass_over-clause-ends : goal.returns-in_err-pass_over-clause-ends
returns-in_err-pass_over-clause-ends g c = ends_unprinted c.from_residual.result (g.W.Write.contents c.args.out.now)

pub returns-in_err-close_waiting-clause-ends : goal.returns-in_err-close_waiting-clause-ends
returns-in_err-close_waiting-clause-ends g c = ends_unprinted c.from_residual-in_err-close_waiting.result (g.W.Write.contents c.args.out.now)
