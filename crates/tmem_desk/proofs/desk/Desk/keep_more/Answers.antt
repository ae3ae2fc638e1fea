use Rattle.std.proofs.Common.{◌≡◌, ◌<◌, ℤ, w64, length, refl, subst, arith}
use Rattle.std.proofs.lemmas.Int.{to_z-of_z}
use Rattle.std.proofs.lemmas.Result.{on_ok_weaker}
use Rattle.tmem_desk.specs.Held.{desk_view}
use Rattle.tmem_desk.specs.Serving.{kept_as}
use Rattle.tmem_desk.proofs.Lists.{keeps_behind, keeps_full}
use Rattle.tmem_desk.proofs.desk.Desk.keep_more.Goals as goal

pub returns-then-len-ge-MOST_KEPT-clause-ok : goal.returns-then-len-ge-MOST_KEPT-clause-ok
returns-then-len-ge-MOST_KEPT-clause-ok g c =
    on_ok_weaker c.tell.result
    (λ is.
    subst (λ (id : ℤ). desk_view c.tell.new.self ≡ kept_as id c.args.word c.args.ready.plan.tree (desk_view c.args.self.now)) (to_z-of_z w64 c.args.id c.ranges.id)
    (keeps_full _ _ c.args.word c.args.ready.plan.tree c.args.self.now.kept.items (desk_view c.args.self.now) (desk_view c.tell.new.self) refl c.requires (omega arith) is))
    c.tell.ensures.ok

pub returns-clause-ok : goal.returns-clause-ok
returns-clause-ok g c =
    let few : length c.args.self.now.kept.items < 256 = omega arith in
    on_ok_weaker c.tell-2.result
    (λ is.
    subst (λ (id : ℤ). desk_view c.tell-2.new.self ≡ kept_as id c.args.word c.args.ready.plan.tree (desk_view c.args.self.now)) (to_z-of_z w64 c.args.id c.ranges.id)
    (keeps_behind _ _ c.args.word c.args.ready.plan.tree c.args.self.now.kept.items c.push.new.self.items _ (desk_view c.args.self.now) (desk_view c.tell-2.new.self) refl c.requires few refl c.in_ok-push.ensures.items is))
    c.tell-2.ensures.ok
