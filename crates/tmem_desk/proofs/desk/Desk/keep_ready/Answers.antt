use Rattle.std.proofs.Common.{◌≡◌, ℤ, w64, refl, sym, ◌∙◌, subst}
use Rattle.std.proofs.lemmas.Int.{to_z-of_z}
use Rattle.std.proofs.lemmas.Result.{on_ok_weaker}
use Rattle.tmem_desk.specs.Held.{desk_view}
use Rattle.tmem_desk.specs.Serving.{kept_as}
use Rattle.tmem_desk.proofs.Lists.{keeps_first}
use Rattle.tmem_desk.proofs.desk.Desk.keep_ready.Goals as goal

pub returns-in-Some-clause-ok : goal.returns-in-Some-clause-ok
returns-in-Some-clause-ok g c =
    on_ok_weaker c.tell.result
    (λ is.
    subst (λ (id : ℤ). desk_view c.tell.new.self ≡ kept_as id c.args.word c.args.ready.plan.tree (desk_view c.args.self.now)) (to_z-of_z w64 c.args.id c.ranges.id)
    (keeps_first _ _ c.args.word c.args.ready.plan.tree c.args.self.now.kept.items _ c.in-Some.index _ (desk_view c.args.self.now) (desk_view c.tell.new.self) refl (sym c.index_kept.ensures ∙ c.in-Some.is) refl refl is))
    c.tell.ensures.ok
