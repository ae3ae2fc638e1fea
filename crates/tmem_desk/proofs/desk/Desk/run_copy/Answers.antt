use Rattle.std.proofs.Common.{◌≡◌, ℤ, w64, inl, inr, ap, ◌∙◌, subst}
use Rattle.std.proofs.lemmas.Int.{to_z-of_z}
use Rattle.std.proofs.lemmas.Result.{on_ok_weaker}
use Rattle.tmem_tree.specs.declared.tx.Tx.{Tx}
use Rattle.tmem_requests.specs.declared.request.RequestBody.TheVariants.{Do}
use Rattle.tmem_desk.specs.Asking.{store}
use Rattle.tmem_desk.specs.Held.{desk_view}
use Rattle.tmem_desk.specs.Numbering.{with_numbers}
use Rattle.tmem_desk.specs.Serving.{HasNoPlan, MayWait}
use Rattle.tmem_desk.proofs.Losing.{memory_only}
use Rattle.tmem_desk.proofs.desk.Desk.run_copy.Goals as goal

pub returns-in-Ok-clause-ok : goal.returns-in-Ok-clause-ok
returns-in-Ok-clause-ok g c =
    let same : c.set_numbers.new.self.plan.tree ≡ with_numbers c.args.numbers.now c.args.copy = c.set_numbers.ensures ∙ ap (with_numbers c.args.numbers.now) c.in-Ok.ensures.plan in
    on_ok_weaker c.take_held.result
    (λ waits.
    inr (
    subst (λ (tx : Tx). MayWait (store g.N.Naming.name.start g.N.StoreNaming.opening g.N.ProgramNaming.program g.N.ServedNaming.arities g.N.ServedNaming.always) c.args.id (Do tx) (desk_view c.args.self.now) (desk_view c.take_held.new.self)) same
    (subst (λ (id : ℤ). MayWait (store g.N.Naming.name.start g.N.StoreNaming.opening g.N.ProgramNaming.program g.N.ServedNaming.arities g.N.ServedNaming.always) id (Do c.set_numbers.new.self.plan.tree) (desk_view c.args.self.now) (desk_view c.take_held.new.self)) (to_z-of_z w64 c.args.id c.ranges.id) waits)
    ))
    c.take_held.ensures.ok

pub returns-in-Err-clause-ok : goal.returns-in-Err-clause-ok
returns-in-Err-clause-ok g c =
    on_ok_weaker c.tell.result
    (λ is.
    inl (
    subst (λ (id : ℤ). HasNoPlan (store g.N.Naming.name.start g.N.StoreNaming.opening g.N.ProgramNaming.program g.N.ServedNaming.arities g.N.ServedNaming.always) id c.args.copy (desk_view c.args.self.now) (desk_view c.tell.new.self)) (to_z-of_z w64 c.args.id c.ranges.id) (record { cause = c.in-Err.cause; least = c.in-Err.ensures.none; is = is })
    ))
    c.tell.ensures.ok

pub returns-in-Err-clause-err : goal.returns-in-Err-clause-err
returns-in-Err-clause-err g c = memory_only _ c.tell.result c.tell.ensures.err
