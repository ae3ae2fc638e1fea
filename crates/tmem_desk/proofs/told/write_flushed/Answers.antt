use Rattle.std.proofs.Common.{◌≡◌, ℕ, List, [], ◌++◌, Result, Ok, Err, rules, refl, sym, ap, ◌∙◌, subst, append_assoc, append-nil, drop_of_length-le}
use Rattle.std.specs.Prelude.{OnErr}
use Rattle.std.specs.Io.KnownBytes.{Appends}
use Rattle.std.proofs.KnownBytes.{Appends-kept, Appends-trans}
use Rattle.tmem_desk.proofs.Ends.{appends_none}
use Rattle.tmem_desk.proofs.told.write_flushed.Goals as goal

-- what is left where it failed
at_error : {T E P : Type 0} (r : Result T E) → P → OnErr r P
at_error (Ok x) p = tt
at_error (Err e) p = p

pub loop-init : goal.loop-init
loop-init g c = ([], refl, appends_none (g.W.Write.contents c.args.out.now))

pub loop-preserved : goal.loop-preserved
loop-preserved g c =
    let (done, split, appended) = c.loop.invariant in
    let (part, is, more) = c.in_ok-rest.ensures.written in
    (done ++ part, split ∙ ap (λ (l : List ℕ). done ++ l) is ∙ sym (append_assoc done part c.in_ok-rest.rest.now), Appends-trans _ _ _ _ _ appended more)

pub returns-then-is_empty-clause-written : goal.returns-then-is_empty-clause-written
returns-then-is_empty-clause-written g c =
    let (done, split, appended) = c.loop.invariant in
    let empty : c.loop.rest.now ≡ [] = drop_of_length-le c.loop.rest.now {i = 0} (search rules) in
    subst (Appends _ _) (sym (split ∙ ap (λ (l : List ℕ). done ++ l) empty ∙ append-nil done)) (Appends-kept _ _ _ done appended c.flush.ensures.bytes)

pub returns-in_err-flush-clause-part : goal.returns-in_err-flush-clause-part
returns-in_err-flush-clause-part g c =
    let (done, split, appended) = c.loop.invariant in
    at_error c.from_residual.result (done, c.loop.rest.now, split, Appends-kept _ _ _ done appended c.flush.ensures.bytes)

pub returns-in_err-rest-clause-part : goal.returns-in_err-rest-clause-part
returns-in_err-rest-clause-part g c =
    let (done, split, appended) = c.loop.invariant in
    at_error c.from_residual-in_err-rest.result (done, c.loop.rest.now, split, subst (Appends _ _) (append-nil done) (Appends-trans _ _ _ _ _ appended c.in_err-rest.ensures.none))

pub returns-clause-part : goal.returns-clause-part
returns-clause-part g c =
    let (done, split, appended) = c.loop.invariant in
    (done, c.loop.rest.now, split, appended)
