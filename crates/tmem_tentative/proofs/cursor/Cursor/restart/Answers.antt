use Rattle.std.proofs.Common.{List, length, length-append, refl, ap, arith}
use Rattle.std.proofs.lemmas.List.{length-replicate}
use Rattle.std.specs.Prelude.{Result, Ok, Err, IfErr}
use Rattle.tmem_tree.specs.Signatures.{footprint_in}
use Rattle.tmem_tentative.specs.declared.save.Save.{Save}
use Rattle.tmem_tentative.specs.Places.{place_at}
use Rattle.tmem_tentative.specs.Cursors.{IsAt, StandsIn}
use Rattle.tmem_tentative.proofs.CursorGave.{none_answered}
use Rattle.tmem_tentative.proofs.CursorKept.{stays_at, stays_in}
use Rattle.tmem_tentative.proofs.CursorStands.{start_stands}
use Rattle.tmem_tentative.proofs.cursor.Cursor.restart.Goals as goal

pub returns-clause-stands : goal.returns-clause-stands
returns-clause-stands c = λ m.
    let long = simp (length-append, length-replicate) at (ap (λ (l : List Save). length l) c.in_ok-make_room.ensures.added) in
    start_stands m (footprint_in c.args.plan.now.signatures) c.args.plan.now.tree _ _ _ c.clear-2.ensures refl c.clear.ensures c.none.ensures c.truncate.ensures.entries refl (omega (arith, long)) c.make_room.ensures.limits

pub returns-clause-at : goal.returns-clause-at
returns-clause-at c = λ m tests.
    let long = simp (length-append, length-replicate) at (ap (λ (l : List Save). length l) c.in_ok-make_room.ensures.added) in
    record {
      stands = start_stands m tests.footprint c.args.plan.now.tree _ _ _ c.clear-2.ensures refl c.clear.ensures c.none.ensures c.truncate.ensures.entries refl (omega (arith, long)) c.make_room.ensures.limits;
      answered = rw c.none.ensures (none_answered m tests c.args.plan.now.tree _);
    }

-- what holds whatever the answer is
on_err : {T E : Type 0} (r : Result T E) (P : Type 0) → P → IfErr r (λ _. P)
on_err (Ok x) P here = tt
on_err (Err e) P here = here

pub returns-in_err-make_room-clause-stays : goal.returns-in_err-make_room-clause-stays
returns-in_err-make_room-clause-stays c = λ m held stands.
    let old = c.args.self.now in
    on_err c.from_residual.result (StandsIn m held _)
    (stays_in old _ (record { stage = refl; given = refl; answers = refl; unused = refl; probe = refl; place = ap (λ (saves : List Save). place_at old.course saves) c.in_err-make_room.ensures.same; ending = refl }) m held stands)

pub returns-in_err-make_room-clause-stays_at : goal.returns-in_err-make_room-clause-stays_at
returns-in_err-make_room-clause-stays_at c = λ m tests held at.
    let old = c.args.self.now in
    on_err c.from_residual.result (IsAt m tests held _)
    (stays_at old _ (record { stage = refl; given = refl; answers = refl; unused = refl; probe = refl; place = ap (λ (saves : List Save). place_at old.course saves) c.in_err-make_room.ensures.same; ending = refl }) m tests held at)
