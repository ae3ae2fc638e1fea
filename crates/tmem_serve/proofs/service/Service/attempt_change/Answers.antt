use Rattle.std.proofs.Common.{◌≡◌, ◌∙◌, ℕ, ℤ, List, ap, sym, subst}
use Rattle.std.specs.Map.{keys_of}
use Rattle.tmem_front.proofs.Laws.{knows_still}
use Rattle.tmem_desk.specs.Asking.{SeesValues, store}
use Rattle.tmem_desk.proofs.Laws.{any_err}
use Rattle.tmem_serve.proofs.service.Service.attempt_change.Goals as goal

pub returns-then-are_same-clause-tries : goal.returns-then-are_same-clause-tries
returns-then-are_same-clause-tries g c =
    let same : c.in_ok-count.values.items ≡ c.args.reads.now.items = sym c.deref-3.ensures.value ∙ (c.are_same.ensures.same c.if-are_same.true ∙ c.deref-4.ensures.value) in
    let vars : c.deref-2.result.now ≡ keys_of c.args.reads.now.items = c.deref-2.ensures.value ∙ (c.in_ok-vars.ensures ∙ ap (λ (l : List (ℕ × ℤ)). keys_of l) c.deref.ensures.value) in (
      c.in_ok-count.count,
      subst (λ (l : List (ℕ × ℤ)). SeesValues (store g.N.Naming.name.start g.N.StoreNaming.opening g.N.ProgramNaming.program g.N.ServedNaming.arities g.N.ServedNaming.always) (keys_of c.args.reads.now.items) c.args.pass.now c.in_ok-count.count l c.see.new.pass) same
          (subst (λ (l : List ℕ). SeesValues (store g.N.Naming.name.start g.N.StoreNaming.opening g.N.ProgramNaming.program g.N.ServedNaming.arities g.N.ServedNaming.always) l c.args.pass.now c.in_ok-count.count c.in_ok-count.values.items c.see.new.pass) vars c.in_ok-count.ensures.sees),
    )

pub returns-in_err-vars-clause-knows : goal.returns-in_err-vars-clause-knows
returns-in_err-vars-clause-knows g c = any_err c.from_residual.result _ (λ _. knows_still c.args.pass.now)

pub returns-in_err-count-clause-knows : goal.returns-in_err-count-clause-knows
returns-in_err-count-clause-knows g c = any_err c.from_residual-in_err-count.result _ (λ _. c.see.ensures.knows)
