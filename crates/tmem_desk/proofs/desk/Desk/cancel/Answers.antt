use Rattle.std.proofs.Common.{◌≡◌, ℤ, w64, refl, sym, ◌∙◌, subst}
use Rattle.std.proofs.lemmas.Int.{to_z-of_z}
use Rattle.std.proofs.lemmas.Result.{on_ok_weaker}
use Rattle.tmem_desk.specs.Desks.{DeskView}
use Rattle.tmem_desk.specs.Held.{desk_view}
use Rattle.tmem_desk.specs.Serving.{cancelled}
use Rattle.tmem_desk.proofs.Lists.{cancels_none_at}
use Rattle.tmem_desk.proofs.desk.Desk.cancel.Goals as goal

pub returns-in-None-clause-ok : goal.returns-in-None-clause-ok
returns-in-None-clause-ok g c =
    on_ok_weaker c.tell.result
    (cancels_none_at _ c.args.id c.args.other _ _ c.args.self.now.waiting.items (desk_view c.args.self.now) (desk_view c.tell.new.self) (to_z-of_z w64 c.args.id c.ranges.id) (to_z-of_z w64 c.args.other c.ranges.other) refl (sym c.index_waiting.ensures ∙ c.in-None.is))
    c.tell.ensures.ok

-- where the ids are read back from what is passed
cancelled_as : (id id' other other' : ℤ) (v w : DeskView) → id' ≡ id → other' ≡ other → w ≡ cancelled id' other' v → w ≡ cancelled id other v
cancelled_as id id' other other' v w same also is = subst (λ (i : ℤ). w ≡ cancelled i other v) same (subst (λ (o : ℤ). w ≡ cancelled id' o v) also is)

pub returns-in-Some-clause-ok : goal.returns-in-Some-clause-ok
returns-in-Some-clause-ok g c =
    on_ok_weaker c.cancel_at.result
    (cancelled_as c.args.id _ c.args.other _ (desk_view c.args.self.now) (desk_view c.cancel_at.new.self) (to_z-of_z w64 c.args.id c.ranges.id) (to_z-of_z w64 c.args.other c.ranges.other))
    c.cancel_at.ensures.ok
