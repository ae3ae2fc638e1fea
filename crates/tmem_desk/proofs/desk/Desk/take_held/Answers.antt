use Rattle.std.proofs.Common.{ℤ, Option, Some, None, w64, to_z, of_z, inr, refl, subst}
use Rattle.std.proofs.lemmas.Int.{to_z-of_z}
use Rattle.std.proofs.lemmas.Result.{err_from_is_err_and, on_ok_weaker}
use Rattle.tmem_answers.specs.declared.answer.Answer.{Answer}
use Rattle.tmem_desk.specs.Asking.{Tries, store}
use Rattle.tmem_desk.specs.Held.{asked, desk_view}
use Rattle.tmem_desk.specs.Serving.{MayWait}
use Rattle.tmem_desk.proofs.Answering.{may_wait}
use Rattle.tmem_desk.proofs.Losing.{handed, memory_only}
use Rattle.tmem_desk.proofs.Sight.{sees_by_knowing}
use Rattle.tmem_desk.proofs.desk.Desk.take_held.Goals as goal

pub returns-in_err-answer-clause-err : goal.returns-in_err-answer-clause-err
returns-in_err-answer-clause-err g c = handed c.from_residual.result c.in_err-answer.field-0.0 _ c.from_residual.ensures.1 (inr (record { is = refl; sees = sees_by_knowing c.args.self.now.pass c.attempt.new.pass c.in_err-answer.ensures.knows }))

pub returns-in-Some-clause-err : goal.returns-in-Some-clause-err
returns-in-Some-clause-err g c = memory_only _ c.tell.result c.tell.ensures.err

pub returns-in-None-clause-err : goal.returns-in-None-clause-err
returns-in-None-clause-err g c = memory_only _ c.wait.result c.wait.ensures.err

pub returns-in-Some-clause-ok : goal.returns-in-Some-clause-ok
returns-in-Some-clause-ok g c =
    let s = (store g.N.Naming.name.start g.N.StoreNaming.opening g.N.ProgramNaming.program g.N.ServedNaming.arities g.N.ServedNaming.always) in
    let v = desk_view c.args.self.now in
    let w = desk_view c.tell.new.self in
    on_ok_weaker c.tell.result
    (λ is. subst (λ (id : ℤ). MayWait s id (asked c.args.held) v w) (to_z-of_z w64 c.args.id c.ranges.id)
    (may_wait s (to_z w64 (of_z w64 c.args.id)) (asked c.args.held) v w c.attempt.new.pass (Some c.in-Some.answer) (subst (λ (o : Option Answer). Tries s (asked c.args.held) c.args.self.now.pass o c.attempt.new.pass) c.in-Some.is c.in_ok-answer.ensures.tries) is))
    c.tell.ensures.ok

pub returns-in-None-clause-ok : goal.returns-in-None-clause-ok
returns-in-None-clause-ok g c =
    let s = (store g.N.Naming.name.start g.N.StoreNaming.opening g.N.ProgramNaming.program g.N.ServedNaming.arities g.N.ServedNaming.always) in
    let v = desk_view c.args.self.now in
    let w = desk_view c.wait.new.self in
    on_ok_weaker c.wait.result
    (λ is. subst (λ (id : ℤ). MayWait s id (asked c.args.held) v w) (to_z-of_z w64 c.args.id c.ranges.id)
    (may_wait s (to_z w64 (of_z w64 c.args.id)) (asked c.args.held) v w c.attempt.new.pass None (subst (λ (o : Option Answer). Tries s (asked c.args.held) c.args.self.now.pass o c.attempt.new.pass) c.in-None.is c.in_ok-answer.ensures.tries) is))
    c.wait.ensures.ok

pub returns-in_err-answer-clause-ok : goal.returns-in_err-answer-clause-ok
returns-in_err-answer-clause-ok g c = rw (err_from_is_err_and c.from_residual.result c.from_residual.ensures.1).1 tt
