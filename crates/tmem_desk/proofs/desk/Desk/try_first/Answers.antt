use Rattle.std.proofs.Common.{◌≡◌, Option, FitsSigned, w64, refl, ap, sym, subst, arith, length, rules, inl, inr}
use Rattle.std.proofs.lemmas.Int.{to_z-of_z}
use Rattle.std.proofs.lemmas.Result.{err_from_is_err_and, on_ok_weaker}
use Rattle.tmem_answers.specs.declared.answer.Answer.{Answer}
use Rattle.tmem_desk.specs.Asking.{Tries, store}
use Rattle.tmem_desk.specs.Held.{asked, asking, desk_view}
use Rattle.tmem_desk.proofs.Waking.{none_first, answers_first, waits_again}
use Rattle.tmem_fault.specs.declared.fault.Fault.TheVariants.{Memory}
use Rattle.tmem_desk.proofs.Losing.{handed, memory_only, waits_behind}
use Rattle.tmem_desk.proofs.Sight.{sees_by_knowing}
use Rattle.tmem_desk.proofs.desk.Desk.try_first.Goals as goal

pub returns-in_default-clause-ok : goal.returns-in_default-clause-ok
returns-in_default-clause-ok g c =
    let none : length c.args.self.now.waiting.items ≡ 0 = first_of (omega (arith, c.in_default.ensures.cases.0, c.args.self.now.waiting.ok.0), search rules) in
    none_first (λ w. (w.id, asked w.held)) (store g.N.Naming.name.start g.N.StoreNaming.opening g.N.ProgramNaming.program g.N.ServedNaming.arities g.N.ServedNaming.always) c.args.self.now.waiting.items (desk_view c.args.self.now) _ refl none
    (ap (λ ws. record (desk_view c.args.self.now) { waiting = asking ws }) (sym c.in_default.ensures.items))

pub returns-in-Ok-Some-clause-ok : goal.returns-in-Ok-Some-clause-ok
returns-in-Ok-Some-clause-ok g c =
    let fits : FitsSigned w64 c.in-Some.one.id = first_of (search (rules, c.pop_front.type_inv), search rules) in
    on_ok_weaker c.tell.result
    (answers_first (λ w. (w.id, asked w.held)) (store g.N.Naming.name.start g.N.StoreNaming.opening g.N.ProgramNaming.program g.N.ServedNaming.arities g.N.ServedNaming.always) c.in-Some.one c.args.self.now.waiting.items c.pop_front.new.self.items _ c.in-Ok-Some.answer (desk_view c.args.self.now) (desk_view c.tell.new.self) c.attempt.new.pass refl c.in-Some.ensures.items (to_z-of_z w64 c.in-Some.one.id fits)
    (subst (λ (o : Option Answer). Tries (store g.N.Naming.name.start g.N.StoreNaming.opening g.N.ProgramNaming.program g.N.ServedNaming.arities g.N.ServedNaming.always) (asked c.in-Some.one.held) c.args.self.now.pass o c.attempt.new.pass) c.in-Ok-Some.field-0-is c.in-Ok-Some.ensures.tries))
    c.tell.ensures.ok

pub returns-in_ok-push_back-in-Ok-None-clause-ok : goal.returns-in_ok-push_back-in-Ok-None-clause-ok
returns-in_ok-push_back-in-Ok-None-clause-ok g c =
    waits_again (λ w. (w.id, asked w.held)) (store g.N.Naming.name.start g.N.StoreNaming.opening g.N.ProgramNaming.program g.N.ServedNaming.arities g.N.ServedNaming.always) c.in-Some.one c.args.self.now.waiting.items c.pop_front.new.self.items c.push_back.new.self.items (desk_view c.args.self.now) _ c.attempt.new.pass refl c.in-Some.ensures.items
    (subst (λ (o : Option Answer). Tries (store g.N.Naming.name.start g.N.StoreNaming.opening g.N.ProgramNaming.program g.N.ServedNaming.arities g.N.ServedNaming.always) (asked c.in-Some.one.held) c.args.self.now.pass o c.attempt.new.pass) c.in-Ok-None.field-0-is c.in-Ok-None.ensures.tries) c.in_ok-push_back-in-Ok-None.ensures.items refl

pub returns-in-Ok-Some-clause-err : goal.returns-in-Ok-Some-clause-err
returns-in-Ok-Some-clause-err g c = memory_only _ c.tell.result c.tell.ensures.err

pub returns-in_err-push_back-in-Ok-None-clause-err : goal.returns-in_err-push_back-in-Ok-None-clause-err
returns-in_err-push_back-in-Ok-None-clause-err g c = handed c.from_residual.result Memory _ c.from_residual.ensures.1 (inl refl)

pub returns-in_err-push_back-in-Err-clause-err : goal.returns-in_err-push_back-in-Err-clause-err
returns-in_err-push_back-in-Err-clause-err g c = handed c.from_residual-in_err-push_back-in-Err.result Memory _ c.from_residual-in_err-push_back-in-Err.ensures.1 (inl refl)

pub returns-in_ok-push_back-in-Err-clause-err : goal.returns-in_ok-push_back-in-Err-clause-err
returns-in_ok-push_back-in-Err-clause-err g c =
    inr (waits_behind (λ w. (w.id, asked w.held)) c.in-Some.one c.args.self.now.waiting.items c.pop_front.new.self.items c.push_back-in-Err.new.self.items (desk_view c.args.self.now) _ c.attempt.new.pass refl c.in-Some.ensures.items c.in_ok-push_back-in-Err.ensures.items refl (sees_by_knowing c.args.self.now.pass c.attempt.new.pass c.in-Err.ensures.knows))

pub returns-in_err-push_back-in-Ok-None-clause-ok : goal.returns-in_err-push_back-in-Ok-None-clause-ok
returns-in_err-push_back-in-Ok-None-clause-ok g c = rw (err_from_is_err_and c.from_residual.result c.from_residual.ensures.1).1 tt

pub returns-in_err-push_back-in-Err-clause-ok : goal.returns-in_err-push_back-in-Err-clause-ok
returns-in_err-push_back-in-Err-clause-ok g c = rw (err_from_is_err_and c.from_residual-in_err-push_back-in-Err.result c.from_residual-in_err-push_back-in-Err.ensures.1).1 tt
