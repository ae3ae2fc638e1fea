use Rattle.std.proofs.Common.{◌≡◌, ℕ, ℤ, w64, ◌<◌, List, length, map, Option, Some, None, refl, subst, arith}
use Rattle.std.specs.Prelude.{IsSome, OnSome, position}
use Rattle.std.specs.Ordering.{int_eq}
use Rattle.std.proofs.lemmas.Bool.{false≢true}
use Rattle.tmem_requests.specs.declared.request.RequestBody.{RequestBody}
use Rattle.tmem_desk.specs.Desks.{DeskView}
use Rattle.tmem_desk.proofs.Indices.{found_at}
use Rattle.std.proofs.lemmas.Int.{to_z-of_z}
use Rattle.std.proofs.lemmas.Result.{on_ok_weaker}
use Rattle.tmem_desk.specs.Held.{desk_view}
use Rattle.tmem_desk.proofs.Lists.{cancels_first_at}
use Rattle.tmem_desk.proofs.Losing.{handed}
use Rattle.tmem_desk.proofs.desk.Desk.cancel_at.Goals as goal

on_some : {X P : Type 0} (o : Option X) → OnSome o P → IsSome o → P
on_some (Some x) is some = is
on_some None is some = absurd (false≢true some)

found_below : {X : Type 0} (g : X → ℤ × RequestBody) (id : ℤ) (xs : List X) (at : ℕ) (v : DeskView) → v.waiting ≡ map g xs → position (λ (x : X). int_eq (g x).0 id) xs ≡ Some at → at < length xs
found_below {X} g id xs at v all found =
    let found_index = found_at (λ (x : X). int_eq (g x).0 id) xs at found in
    subst (λ (k : ℕ). k < length xs) found_index.1 found_index.0

pub returns-clause-ok : goal.returns-clause-ok
returns-clause-ok g c =
    let below : c.args.index < length c.args.self.now.waiting.items = found_below _ c.args.other c.args.self.now.waiting.items c.args.index (desk_view c.args.self.now) refl c.requires in
    on_ok_weaker c.tell-2.result
    (cancels_first_at _ c.args.id c.args.other _ _ c.args.self.now.waiting.items c.remove.new.self.items c.args.index (desk_view c.args.self.now) (desk_view c.tell.new.self) (desk_view c.tell-2.new.self) (to_z-of_z w64 c.args.id c.ranges.id) (to_z-of_z w64 c.args.other c.ranges.other) refl c.requires
    (on_some c.remove.result c.remove.ensures.items (c.remove.ensures.variant.1 (omega arith))) c.in_ok-tell.ensures.ok)
    c.tell-2.ensures.ok

pub returns-in_err-tell-clause-err : goal.returns-in_err-tell-clause-err
returns-in_err-tell-clause-err g c = handed c.from_residual.result c.in_err-tell.field-0.0 _ c.from_residual.ensures.1 c.in_err-tell.ensures.err
