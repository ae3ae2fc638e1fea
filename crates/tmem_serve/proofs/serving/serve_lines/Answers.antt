use Rattle.std.proofs.Common.{inl, inr, ◌≡◌, ◌≤◌, ℕ, List, [], sym, ◌∙◌, subst, take, length, arith}
use Rattle.std.specs.Io.KnownBytes.{Consumes}
use Rattle.std.proofs.lemmas.List.{take_at}
use Rattle.std.proofs.lemmas.Result.{err_from_is_err_and}
use Rattle.tmem_desk.specs.Asking.{store}
use Rattle.tmem_desk.specs.Held.{desk_view}
use Rattle.tmem_serve.specs.Turns.{StopsInput}
use Rattle.tmem_serve.proofs.Turning.{err_is, none_served, one_served, all_served, stopped, piece_unflushed, end_unflushed, not_begun}
use Rattle.tmem_serve.proofs.serving.serve_lines.Goals as goal

pub returns-in_err-piece-clause-stopped : goal.returns-in_err-piece-clause-stopped
returns-in_err-piece-clause-stopped g c =
    let s = store g.N.Naming.name.start g.N.StoreNaming.opening g.N.ProgramNaming.program g.N.ServedNaming.arities g.N.ServedNaming.always in
    let v = desk_view c.args.desk.now in
    let unread = g.I.Read.remaining c.args.input.now in
    let before = g.W.Write.contents c.args.out.now in
    let none = not_begun s v unread before c.new-lines.result c.new-lines.ensures in
    err_is (StopsInput s v unread unread before before) c.from_residual.result c.in_err-piece.field-0.0 c.from_residual.ensures.1 (subst (StopsInput s v unread unread before before) (sym c.in_err-piece.ensures.refused) none)

pub loop-init : goal.loop-init
loop-init g c =
    let s = store g.N.Naming.name.start g.N.StoreNaming.opening g.N.ProgramNaming.program g.N.ServedNaming.arities g.N.ServedNaming.always in
    let v = desk_view c.args.desk.now in
    let unread = g.I.Read.remaining c.args.input.now in
    let before = g.W.Write.contents c.args.out.now in
    record { served = none_served s v unread before c.new-lines.result c.new-lines.ensures; room = c.in_ok-piece.ensures.room }

pub returns-in_err-end-in-Err-clause-stopped : goal.returns-in_err-end-in-Err-clause-stopped
returns-in_err-end-in-Err-clause-stopped g c =
    let s = store g.N.Naming.name.start g.N.StoreNaming.opening g.N.ProgramNaming.program g.N.ServedNaming.arities g.N.ServedNaming.always in
    let v = desk_view c.args.desk.now in
    let unread = g.I.Read.remaining c.args.input.now in
    let before = g.W.Write.contents c.args.out.now in
    let met = desk_view c.loop.desk in
    let rest = g.I.Read.remaining c.loop.input in
    let left = g.I.Read.remaining c.read_some.new.input in
    let so = c.loop.invariant.served in
    let after = g.W.Write.contents c.loop.out in
    let read = c.in-Err.ensures.none in
    let given = g.W.Write.contents c.end.new.out in
    err_is (StopsInput s v unread left before given) c.from_residual-in_err-end-in-Err.result c.in_err-end-in-Err.field-0.0 c.from_residual-in_err-end-in-Err.ensures.1
    (stopped s v unread before met c.loop.lines rest left after given [] c.in_err-end-in-Err.field-0.0 so read c.in_err-end-in-Err.ensures.ends (inr (desk_view c.end.new.self, c.in_err-end-in-Err.ensures.told so.left so.stands)))

pub returns-in-Err-clause-served : goal.returns-in-Err-clause-served
returns-in-Err-clause-served g c =
    let s = store g.N.Naming.name.start g.N.StoreNaming.opening g.N.ProgramNaming.program g.N.ServedNaming.arities g.N.ServedNaming.always in
    let v = desk_view c.args.desk.now in
    let unread = g.I.Read.remaining c.args.input.now in
    let before = g.W.Write.contents c.args.out.now in
    let met = desk_view c.loop.desk in
    let rest = g.I.Read.remaining c.loop.input in
    let left = g.I.Read.remaining c.read_some.new.input in
    let so = c.loop.invariant.served in
    let after = g.W.Write.contents c.loop.out in
    let given = g.W.Write.contents c.end.new.out in
    let flushed = g.W.Write.contents c.flush-in-Err.new.out in
    all_served s v unread before met (desk_view c.end.new.self) c.loop.lines rest left after given flushed so c.in-Err.ensures.none c.in_ok-end-in-Err.ensures.serves c.flush-in-Err.ensures.kept

pub returns-in_err-flush-in-Err-clause-stopped : goal.returns-in_err-flush-in-Err-clause-stopped
returns-in_err-flush-in-Err-clause-stopped g c =
    let s = store g.N.Naming.name.start g.N.StoreNaming.opening g.N.ProgramNaming.program g.N.ServedNaming.arities g.N.ServedNaming.always in
    let v = desk_view c.args.desk.now in
    let unread = g.I.Read.remaining c.args.input.now in
    let before = g.W.Write.contents c.args.out.now in
    let met = desk_view c.loop.desk in
    let rest = g.I.Read.remaining c.loop.input in
    let left = g.I.Read.remaining c.read_some.new.input in
    let so = c.loop.invariant.served in
    let after = g.W.Write.contents c.loop.out in
    let given = g.W.Write.contents c.end.new.out in
    let flushed = g.W.Write.contents c.flush-in-Err.new.out in
    err_is (StopsInput s v unread left before flushed) c.from_residual-in_err-flush-in-Err.result c.in_err-flush-in-Err.field-0.0 c.from_residual-in_err-flush-in-Err.ensures.1
    (end_unflushed s v unread before met (desk_view c.end.new.self) c.loop.lines rest left after given flushed c.in_err-flush-in-Err.field-0.0 so c.in-Err.ensures.none c.in_ok-end-in-Err.ensures.serves c.flush-in-Err.ensures.kept c.in_err-flush-in-Err.ensures.failed)

pub returns-in_err-serve-in-Ok-clause-stopped : goal.returns-in_err-serve-in-Ok-clause-stopped
returns-in_err-serve-in-Ok-clause-stopped g c =
    let s = store g.N.Naming.name.start g.N.StoreNaming.opening g.N.ProgramNaming.program g.N.ServedNaming.arities g.N.ServedNaming.always in
    let v = desk_view c.args.desk.now in
    let unread = g.I.Read.remaining c.args.input.now in
    let before = g.W.Write.contents c.args.out.now in
    let met = desk_view c.loop.desk in
    let rest = g.I.Read.remaining c.loop.input in
    let left = g.I.Read.remaining c.read_some.new.input in
    let so = c.loop.invariant.served in
    let after = g.W.Write.contents c.loop.out in
    let read = c.in-Ok.ensures.bytes in
    let given = g.W.Write.contents c.serve.new.out in
    let long : length c.read_some.new.piece ≡ c.loop.piece.len = omega arith in
    let same : c.deref.result.now ≡ c.read_some.new.piece = c.deref.ensures.value ∙ take_at c.read_some.new.piece _ c.loop.piece.len long in
    let piece : c.first_of.result.now ≡ take c.in-Ok.count c.read_some.new.piece = subst (λ (xs : List ℕ). c.first_of.result.now ≡ take c.in-Ok.count xs) same c.first_of.ensures in
    let came : Consumes rest left c.first_of.result.now = subst (Consumes rest left) (sym piece) read in
    err_is (StopsInput s v unread left before given) c.from_residual-in_err-serve-in-Ok.result c.in_err-serve-in-Ok.field-0.0 c.from_residual-in_err-serve-in-Ok.ensures.1
    (stopped s v unread before met c.loop.lines rest left after given c.first_of.result.now c.in_err-serve-in-Ok.field-0.0 so came c.in_err-serve-in-Ok.ensures.ends (inl (c.serve.new.lines, desk_view c.serve.new.self, c.in_err-serve-in-Ok.ensures.told so.left so.stands)))

pub loop-preserved : goal.loop-preserved
loop-preserved g c =
    let s = store g.N.Naming.name.start g.N.StoreNaming.opening g.N.ProgramNaming.program g.N.ServedNaming.arities g.N.ServedNaming.always in
    let v = desk_view c.args.desk.now in
    let unread = g.I.Read.remaining c.args.input.now in
    let before = g.W.Write.contents c.args.out.now in
    let met = desk_view c.loop.desk in
    let rest = g.I.Read.remaining c.loop.input in
    let left = g.I.Read.remaining c.read_some.new.input in
    let so = c.loop.invariant.served in
    let after = g.W.Write.contents c.loop.out in
    let read = c.in-Ok.ensures.bytes in
    let given = g.W.Write.contents c.serve.new.out in
    let flushed = g.W.Write.contents c.flush.new.out in
    let long : length c.read_some.new.piece ≡ c.loop.piece.len = omega arith in
    let same : c.deref.result.now ≡ c.read_some.new.piece = c.deref.ensures.value ∙ take_at c.read_some.new.piece _ c.loop.piece.len long in
    let piece : c.first_of.result.now ≡ take c.in-Ok.count c.read_some.new.piece = subst (λ (xs : List ℕ). c.first_of.result.now ≡ take c.in-Ok.count xs) same c.first_of.ensures in
    let came : Consumes rest left c.first_of.result.now = subst (Consumes rest left) (sym piece) read in
    record {
      served = one_served s v unread before met (desk_view c.serve.new.self) c.loop.lines c.serve.new.lines rest left after given flushed c.first_of.result.now so came c.in_ok-serve-in-Ok.ensures.serves c.flush.ensures.kept;
      room = subst (λ (xs : List ℕ). 1 ≤ length xs) (sym (take_at c.read_some.new.piece _ c.loop.piece.len long)) (omega (arith, long, c.loop.invariant.room));
    }

pub returns-in_err-flush-in-Ok-clause-stopped : goal.returns-in_err-flush-in-Ok-clause-stopped
returns-in_err-flush-in-Ok-clause-stopped g c =
    let s = store g.N.Naming.name.start g.N.StoreNaming.opening g.N.ProgramNaming.program g.N.ServedNaming.arities g.N.ServedNaming.always in
    let v = desk_view c.args.desk.now in
    let unread = g.I.Read.remaining c.args.input.now in
    let before = g.W.Write.contents c.args.out.now in
    let met = desk_view c.loop.desk in
    let rest = g.I.Read.remaining c.loop.input in
    let left = g.I.Read.remaining c.read_some.new.input in
    let so = c.loop.invariant.served in
    let after = g.W.Write.contents c.loop.out in
    let read = c.in-Ok.ensures.bytes in
    let given = g.W.Write.contents c.serve.new.out in
    let flushed = g.W.Write.contents c.flush.new.out in
    let long : length c.read_some.new.piece ≡ c.loop.piece.len = omega arith in
    let same : c.deref.result.now ≡ c.read_some.new.piece = c.deref.ensures.value ∙ take_at c.read_some.new.piece _ c.loop.piece.len long in
    let piece : c.first_of.result.now ≡ take c.in-Ok.count c.read_some.new.piece = subst (λ (xs : List ℕ). c.first_of.result.now ≡ take c.in-Ok.count xs) same c.first_of.ensures in
    let came : Consumes rest left c.first_of.result.now = subst (Consumes rest left) (sym piece) read in
    err_is (StopsInput s v unread left before flushed) c.from_residual-in_err-flush-in-Ok.result c.in_err-flush-in-Ok.field-0.0 c.from_residual-in_err-flush-in-Ok.ensures.1
    (piece_unflushed s v unread before met (desk_view c.serve.new.self) c.loop.lines c.serve.new.lines rest left after given flushed c.first_of.result.now c.in_err-flush-in-Ok.field-0.0 so came c.in_ok-serve-in-Ok.ensures.serves c.flush.ensures.kept c.in_err-flush-in-Ok.ensures.failed)

pub first_of-requires : goal.first_of-requires
first_of-requires g c =
    let long : length c.read_some.new.piece ≡ c.loop.piece.len = omega arith in
    let same : c.deref.result.now ≡ c.read_some.new.piece = c.deref.ensures.value ∙ take_at c.read_some.new.piece _ c.loop.piece.len long in
    subst (λ (xs : List ℕ). c.in-Ok.count ≤ length xs) (sym same) c.in-Ok.ensures.within

pub returns-in-Err-clause-whole : goal.returns-in-Err-clause-whole
returns-in-Err-clause-whole g c = c.in-Err.ensures.ended

pub returns-in_err-piece-clause-served : goal.returns-in_err-piece-clause-served
returns-in_err-piece-clause-served g c = rw (err_from_is_err_and c.from_residual.result c.from_residual.ensures.1).1 tt

pub returns-in_err-piece-clause-whole : goal.returns-in_err-piece-clause-whole
returns-in_err-piece-clause-whole g c = rw (err_from_is_err_and c.from_residual.result c.from_residual.ensures.1).1 tt

pub returns-in_err-serve-in-Ok-clause-served : goal.returns-in_err-serve-in-Ok-clause-served
returns-in_err-serve-in-Ok-clause-served g c = rw (err_from_is_err_and c.from_residual-in_err-serve-in-Ok.result c.from_residual-in_err-serve-in-Ok.ensures.1).1 tt

pub returns-in_err-serve-in-Ok-clause-whole : goal.returns-in_err-serve-in-Ok-clause-whole
returns-in_err-serve-in-Ok-clause-whole g c = rw (err_from_is_err_and c.from_residual-in_err-serve-in-Ok.result c.from_residual-in_err-serve-in-Ok.ensures.1).1 tt

pub returns-in_err-flush-in-Ok-clause-served : goal.returns-in_err-flush-in-Ok-clause-served
returns-in_err-flush-in-Ok-clause-served g c = rw (err_from_is_err_and c.from_residual-in_err-flush-in-Ok.result c.from_residual-in_err-flush-in-Ok.ensures.1).1 tt

pub returns-in_err-flush-in-Ok-clause-whole : goal.returns-in_err-flush-in-Ok-clause-whole
returns-in_err-flush-in-Ok-clause-whole g c = rw (err_from_is_err_and c.from_residual-in_err-flush-in-Ok.result c.from_residual-in_err-flush-in-Ok.ensures.1).1 tt

pub returns-in_err-end-in-Err-clause-served : goal.returns-in_err-end-in-Err-clause-served
returns-in_err-end-in-Err-clause-served g c = rw (err_from_is_err_and c.from_residual-in_err-end-in-Err.result c.from_residual-in_err-end-in-Err.ensures.1).1 tt

pub returns-in_err-end-in-Err-clause-whole : goal.returns-in_err-end-in-Err-clause-whole
returns-in_err-end-in-Err-clause-whole g c = rw (err_from_is_err_and c.from_residual-in_err-end-in-Err.result c.from_residual-in_err-end-in-Err.ensures.1).1 tt

pub returns-in_err-flush-in-Err-clause-served : goal.returns-in_err-flush-in-Err-clause-served
returns-in_err-flush-in-Err-clause-served g c = rw (err_from_is_err_and c.from_residual-in_err-flush-in-Err.result c.from_residual-in_err-flush-in-Err.ensures.1).1 tt

pub returns-in_err-flush-in-Err-clause-whole : goal.returns-in_err-flush-in-Err-clause-whole
returns-in_err-flush-in-Err-clause-whole g c = rw (err_from_is_err_and c.from_residual-in_err-flush-in-Err.result c.from_residual-in_err-flush-in-Err.ensures.1).1 tt

pub returns-in-Err-clause-stopped : goal.returns-in-Err-clause-stopped
returns-in-Err-clause-stopped g c = tt
