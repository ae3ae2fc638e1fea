use Rattle.std.proofs.Common.{ℕ, ℤ, List, w64, to_z, of_z, refl, subst, inr}
use Rattle.std.proofs.lemmas.Int.{to_z-of_z}
use Rattle.std.proofs.lemmas.Result.{err_from_is_err_and, on_ok_weaker, IfErr-weaker}
use Rattle.tmem_answers.specs.declared.answer.Answer.TheVariants as answer
use Rattle.tmem_requests.specs.declared.request.RequestBody.TheVariants as ask
use Rattle.tmem_seats.specs.Settling.{KnowsMore, SeesMore}
use Rattle.tmem_desk.specs.Asking.{SeesValues, store}
use Rattle.tmem_desk.specs.Held.{desk_view}
use Rattle.tmem_desk.specs.Keeping.{kept_under}
use Rattle.tmem_desk.specs.Serving.{Runs, Takes}
use Rattle.tmem_desk.proofs.Answering.{failed_if_none, is_answered, looked, takes_as, told_if_any}
use Rattle.tmem_desk.proofs.Losing.{any_err, handed, memory_only}
use Rattle.tmem_desk.proofs.Sight.{sees_by_knowing, sees_the_same}
use Rattle.tmem_desk.proofs.desk.Desk.take.Goals as goal

pub returns-in-Do-clause-ok : goal.returns-in-Do-clause-ok
returns-in-Do-clause-ok g c = on_ok_weaker c.take_do.result (takes_as (store g.N.Naming.name.start g.N.StoreNaming.opening g.N.ProgramNaming.program g.N.ServedNaming.arities g.N.ServedNaming.always) c.args.id _ (ask.Do c.in-Do.tx) c.args.ask (desk_view c.args.self.now) (desk_view c.take_do.new.self) (to_z-of_z w64 c.args.id c.ranges.id) c.in-Do.is) c.take_do.ensures.ok

pub returns-in-Changed-clause-ok : goal.returns-in-Changed-clause-ok
returns-in-Changed-clause-ok g c = on_ok_weaker c.take_held.result (takes_as (store g.N.Naming.name.start g.N.StoreNaming.opening g.N.ProgramNaming.program g.N.ServedNaming.arities g.N.ServedNaming.always) c.args.id _ (ask.Changed c.in-Changed.reads) c.args.ask (desk_view c.args.self.now) (desk_view c.take_held.new.self) (to_z-of_z w64 c.args.id c.ranges.id) c.in-Changed.is) c.take_held.ensures.ok

pub returns-in-Keep-clause-ok : goal.returns-in-Keep-clause-ok
returns-in-Keep-clause-ok g c = on_ok_weaker c.keep.result (takes_as (store g.N.Naming.name.start g.N.StoreNaming.opening g.N.ProgramNaming.program g.N.ServedNaming.arities g.N.ServedNaming.always) c.args.id _ (ask.Keep c.in-Keep.word c.in-Keep.tx) c.args.ask (desk_view c.args.self.now) (desk_view c.keep.new.self) (to_z-of_z w64 c.args.id c.ranges.id) c.in-Keep.is) c.keep.ensures.ok

pub returns-in-Run-clause-ok : goal.returns-in-Run-clause-ok
returns-in-Run-clause-ok g c = on_ok_weaker c.run_kept.result (λ taken. takes_as (store g.N.Naming.name.start g.N.StoreNaming.opening g.N.ProgramNaming.program g.N.ServedNaming.arities g.N.ServedNaming.always) c.args.id _ (ask.Run c.in-Run.word c.in-Run.numbers) c.args.ask (desk_view c.args.self.now) (desk_view c.run_kept.new.self) (to_z-of_z w64 c.args.id c.ranges.id) c.in-Run.is (subst (λ (numbers : List ℤ). Runs (store g.N.Naming.name.start g.N.StoreNaming.opening g.N.ProgramNaming.program g.N.ServedNaming.arities g.N.ServedNaming.always) (to_z w64 (of_z w64 c.args.id)) numbers (kept_under c.in-Run.word (desk_view c.args.self.now).kept) (desk_view c.args.self.now) (desk_view c.run_kept.new.self)) c.deref-in-Run.ensures.value taken)) c.run_kept.ensures.ok

pub returns-in-Stats-clause-ok : goal.returns-in-Stats-clause-ok
returns-in-Stats-clause-ok g c = on_ok_weaker c.tell_stats.result (takes_as (store g.N.Naming.name.start g.N.StoreNaming.opening g.N.ProgramNaming.program g.N.ServedNaming.arities g.N.ServedNaming.always) c.args.id _ ask.Stats c.args.ask (desk_view c.args.self.now) (desk_view c.tell_stats.new.self) (to_z-of_z w64 c.args.id c.ranges.id) c.in-Stats.is) c.tell_stats.ensures.ok

pub returns-in-Try-clause-ok : goal.returns-in-Try-clause-ok
returns-in-Try-clause-ok g c =
    let s = store g.N.Naming.name.start g.N.StoreNaming.opening g.N.ProgramNaming.program g.N.ServedNaming.arities g.N.ServedNaming.always in
    let v = desk_view c.args.self.now in
    let w = desk_view c.tell_or_fail.new.self in
    told_if_any (Takes s c.args.id c.args.ask v w) c.try_once-answered.result c.tell_or_fail.result
    (λ given answers is. takes_as s c.args.id _ (ask.Try c.in-Try.tx) c.args.ask v w (to_z-of_z w64 c.args.id c.ranges.id) c.in-Try.is (is_answered s _ (ask.Try c.in-Try.tx) v w c.try_once-answered.new.pass given answers is))
    c.try_once-answered.ensures.answers c.tell_or_fail.ensures.ok c.tell_or_fail.ensures.fails

pub returns-in_ok-count-in-Get-clause-ok : goal.returns-in_ok-count-in-Get-clause-ok
returns-in_ok-count-in-Get-clause-ok g c =
    on_ok_weaker c.tell.result
    (λ is. takes_as (store g.N.Naming.name.start g.N.StoreNaming.opening g.N.ProgramNaming.program g.N.ServedNaming.arities g.N.ServedNaming.always) c.args.id _ (ask.Get c.in-Get.vars) c.args.ask (desk_view c.args.self.now) (desk_view c.tell.new.self) (to_z-of_z w64 c.args.id c.ranges.id) c.in-Get.is (is_answered (store g.N.Naming.name.start g.N.StoreNaming.opening g.N.ProgramNaming.program g.N.ServedNaming.arities g.N.ServedNaming.always) _ (ask.Get c.in-Get.vars) (desk_view c.args.self.now) (desk_view c.tell.new.self) c.see.new.pass (answer.Values c.in_ok-count-in-Get.count c.in_ok-count-in-Get.values) (subst (λ (vars : List ℕ). SeesValues (store g.N.Naming.name.start g.N.StoreNaming.opening g.N.ProgramNaming.program g.N.ServedNaming.arities g.N.ServedNaming.always) vars c.args.self.now.pass c.in_ok-count-in-Get.count c.in_ok-count-in-Get.values.items c.see.new.pass) c.deref.ensures.value c.in_ok-count-in-Get.ensures.sees) is))
    c.tell.ensures.ok

pub returns-in-Settle-clause-ok : goal.returns-in-Settle-clause-ok
returns-in-Settle-clause-ok g c =
    let s = store g.N.Naming.name.start g.N.StoreNaming.opening g.N.ProgramNaming.program g.N.ServedNaming.arities g.N.ServedNaming.always in
    let v = desk_view c.args.self.now in
    let w = desk_view c.tell_or_fail-in-Settle.new.self in
    told_if_any (Takes s c.args.id c.args.ask v w) c.propose-answered.result c.tell_or_fail-in-Settle.result
    (λ given answers is. takes_as s c.args.id _ (ask.Settle c.in-Settle.proposal) c.args.ask v w (to_z-of_z w64 c.args.id c.ranges.id) c.in-Settle.is (is_answered s _ (ask.Settle c.in-Settle.proposal) v w c.propose-answered.new.pass given answers is))
    c.propose-answered.ensures.settles c.tell_or_fail-in-Settle.ensures.ok c.tell_or_fail-in-Settle.ensures.fails

pub returns-in-Look-clause-ok : goal.returns-in-Look-clause-ok
returns-in-Look-clause-ok g c =
    on_ok_weaker c.tell-in-Look.result
    (λ is. takes_as (store g.N.Naming.name.start g.N.StoreNaming.opening g.N.ProgramNaming.program g.N.ServedNaming.arities g.N.ServedNaming.always) c.args.id _ ask.Look c.args.ask (desk_view c.args.self.now) (desk_view c.tell-in-Look.new.self) (to_z-of_z w64 c.args.id c.ranges.id) c.in-Look.is (is_answered (store g.N.Naming.name.start g.N.StoreNaming.opening g.N.ProgramNaming.program g.N.ServedNaming.arities g.N.ServedNaming.always) _ ask.Look (desk_view c.args.self.now) (desk_view c.tell-in-Look.new.self) c.look-number.new.pass (answer.Durable c.look-number.result) (looked (store g.N.Naming.name.start g.N.StoreNaming.opening g.N.ProgramNaming.program g.N.ServedNaming.arities g.N.ServedNaming.always) c.args.self.now.pass c.look-number.new.pass c.look-number.result c.look-number.ensures.pass c.look-number.ensures.answer c.look-number.ensures.later c.look-number.ensures.begins) is))
    c.tell-in-Look.ensures.ok

pub returns-in-State-clause-ok : goal.returns-in-State-clause-ok
returns-in-State-clause-ok g c =
    let s = store g.N.Naming.name.start g.N.StoreNaming.opening g.N.ProgramNaming.program g.N.ServedNaming.arities g.N.ServedNaming.always in
    let v = desk_view c.args.self.now in
    let w = desk_view c.tell_or_fail-in-State.new.self in
    told_if_any (Takes s c.args.id c.args.ask v w) c.see_all-answered.result c.tell_or_fail-in-State.result
    (λ given answers is. takes_as s c.args.id _ ask.State c.args.ask v w (to_z-of_z w64 c.args.id c.ranges.id) c.in-State.is (is_answered s _ ask.State v w c.see_all-answered.new.pass given answers is))
    c.see_all-answered.ensures.answers c.tell_or_fail-in-State.ensures.ok c.tell_or_fail-in-State.ensures.fails

pub returns-in-Checkpoint-clause-ok : goal.returns-in-Checkpoint-clause-ok
returns-in-Checkpoint-clause-ok g c =
    let s = store g.N.Naming.name.start g.N.StoreNaming.opening g.N.ProgramNaming.program g.N.ServedNaming.arities g.N.ServedNaming.always in
    let v = desk_view c.args.self.now in
    let w = desk_view c.tell_or_fail-in-Checkpoint.new.self in
    told_if_any (Takes s c.args.id c.args.ask v w) c.write_image-answered.result c.tell_or_fail-in-Checkpoint.result
    (λ given answers is. takes_as s c.args.id _ ask.Checkpoint c.args.ask v w (to_z-of_z w64 c.args.id c.ranges.id) c.in-Checkpoint.is (is_answered s _ ask.Checkpoint v w c.args.self.now.pass given (answers, refl) is))
    c.write_image-answered.ensures.given c.tell_or_fail-in-Checkpoint.ensures.ok c.tell_or_fail-in-Checkpoint.ensures.fails

pub returns-in-Cancel-clause-err : goal.returns-in-Cancel-clause-err
returns-in-Cancel-clause-err g c = memory_only _ c.cancel.result c.cancel.ensures.err

pub returns-in-Keep-clause-err : goal.returns-in-Keep-clause-err
returns-in-Keep-clause-err g c = memory_only _ c.keep.result c.keep.ensures.err

pub returns-in-Stats-clause-err : goal.returns-in-Stats-clause-err
returns-in-Stats-clause-err g c = memory_only _ c.tell_stats.result c.tell_stats.ensures.err

pub returns-in_ok-count-in-Get-clause-err : goal.returns-in_ok-count-in-Get-clause-err
returns-in_ok-count-in-Get-clause-err g c = memory_only _ c.tell.result c.tell.ensures.err

pub returns-in-Look-clause-err : goal.returns-in-Look-clause-err
returns-in-Look-clause-err g c = memory_only _ c.tell-in-Look.result c.tell-in-Look.ensures.err

pub returns-in-Try-clause-err : goal.returns-in-Try-clause-err
returns-in-Try-clause-err g c = failed_if_none (desk_view c.args.self.now) (desk_view c.tell_or_fail.new.self) c.try_once-answered.new.pass c.try_once-answered.result c.tell_or_fail.result (IfErr-weaker c.try_once-answered.result (λ _. KnowsMore c.args.self.now.pass c.try_once-answered.new.pass) (λ _. SeesMore c.args.self.now.pass c.try_once-answered.new.pass) (λ _ more. sees_by_knowing c.args.self.now.pass c.try_once-answered.new.pass more) c.try_once-answered.ensures.knows) c.tell_or_fail.ensures.err

pub returns-in_err-count-in-Get-clause-err : goal.returns-in_err-count-in-Get-clause-err
returns-in_err-count-in-Get-clause-err g c = handed c.from_residual.result c.in_err-count-in-Get.field-0.0 _ c.from_residual.ensures.1 (inr (record { is = refl; sees = sees_by_knowing c.args.self.now.pass c.see.new.pass c.see.ensures.knows }))

pub returns-in-Settle-clause-err : goal.returns-in-Settle-clause-err
returns-in-Settle-clause-err g c = failed_if_none (desk_view c.args.self.now) (desk_view c.tell_or_fail-in-Settle.new.self) c.propose-answered.new.pass c.propose-answered.result c.tell_or_fail-in-Settle.result (IfErr-weaker c.propose-answered.result (λ _. KnowsMore c.args.self.now.pass c.propose-answered.new.pass) (λ _. SeesMore c.args.self.now.pass c.propose-answered.new.pass) (λ _ more. sees_by_knowing c.args.self.now.pass c.propose-answered.new.pass more) c.propose-answered.ensures.knows) c.tell_or_fail-in-Settle.ensures.err

pub returns-in-State-clause-err : goal.returns-in-State-clause-err
returns-in-State-clause-err g c = failed_if_none (desk_view c.args.self.now) (desk_view c.tell_or_fail-in-State.new.self) c.see_all-answered.new.pass c.see_all-answered.result c.tell_or_fail-in-State.result (any_err c.see_all-answered.result _ (λ _. sees_by_knowing c.args.self.now.pass c.see_all-answered.new.pass c.see_all-answered.ensures.knows)) c.tell_or_fail-in-State.ensures.err

pub returns-in-Checkpoint-clause-err : goal.returns-in-Checkpoint-clause-err
returns-in-Checkpoint-clause-err g c = failed_if_none (desk_view c.args.self.now) (desk_view c.tell_or_fail-in-Checkpoint.new.self) c.args.self.now.pass c.write_image-answered.result c.tell_or_fail-in-Checkpoint.result (any_err c.write_image-answered.result _ (λ _. sees_the_same c.args.self.now.pass)) c.tell_or_fail-in-Checkpoint.ensures.err

pub returns-in_err-count-in-Get-clause-ok : goal.returns-in_err-count-in-Get-clause-ok
returns-in_err-count-in-Get-clause-ok g c = rw (err_from_is_err_and c.from_residual.result c.from_residual.ensures.1).1 tt
