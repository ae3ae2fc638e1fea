use Rattle.std.proofs.Common.{◌≡◌, ◌+◌, ℕ, ℤ, suc, subst, length, arith}
use Rattle.std.proofs.lemmas.List.{length-map}
use Rattle.tmem_requests.specs.declared.request.RequestBody.{RequestBody}
use Rattle.tmem_desk.specs.Asking.{store}
use Rattle.tmem_desk.specs.Held.{asked, asking, desk_view}
use Rattle.tmem_desk.specs.Serving.{TriesNext}
use Rattle.tmem_desk.specs.Steps.{Repeats}
use Rattle.tmem_desk.proofs.StepLaws.{Repeats-push}
use Rattle.tmem_desk.proofs.Losing.{goes_until, handed, or_memory, turns_until}
use Rattle.tmem_desk.proofs.desk.Desk.try_each.Goals as goal

pub loop-turn-preserved : goal.loop-turn-preserved
loop-turn-preserved g c =
    let more : suc c.loop-turn._turn ≡ c.loop-turn._turn + 1 = omega arith in
    subst (λ (n : ℕ). Repeats (TriesNext (store g.N.Naming.name.start g.N.StoreNaming.opening g.N.ProgramNaming.program g.N.ServedNaming.arities g.N.ServedNaming.always)) n (desk_view c.args.self.now) (desk_view c.try_first.new.self)) more
    (Repeats-push (TriesNext (store g.N.Naming.name.start g.N.StoreNaming.opening g.N.ProgramNaming.program g.N.ServedNaming.arities g.N.ServedNaming.always)) c.loop-turn._turn (desk_view c.args.self.now) (desk_view c.loop-turn.self) (desk_view c.try_first.new.self) c.loop-turn.invariant c.in_ok-try_first.ensures.ok)

pub returns-clause-ok : goal.returns-clause-ok
returns-clause-ok g c =
    let long : length (asking c.args.self.now.waiting.items) ≡ length c.args.self.now.waiting.items = length-map {B = ℤ × RequestBody} c.args.self.now.waiting.items (λ w. (w.id, asked w.held)) in
    let all : c.loop-turn._turn ≡ length (asking c.args.self.now.waiting.items) = omega (arith, long) in
    subst (λ (n : ℕ). Repeats (TriesNext (store g.N.Naming.name.start g.N.StoreNaming.opening g.N.ProgramNaming.program g.N.ServedNaming.arities g.N.ServedNaming.always)) n (desk_view c.args.self.now) (desk_view c.loop-turn.self)) all c.loop-turn.invariant

pub returns-in_err-try_first-clause-err : goal.returns-in_err-try_first-clause-err
returns-in_err-try_first-clause-err g c =
    handed c.from_residual.result c.in_err-try_first.field-0.0 _ c.from_residual.ensures.1
    (or_memory c.in_err-try_first.field-0.0 (λ goes. turns_until (store g.N.Naming.name.start g.N.StoreNaming.opening g.N.ProgramNaming.program g.N.ServedNaming.arities g.N.ServedNaming.always) c.loop-turn._turn (desk_view c.args.self.now) (desk_view c.loop-turn.self) (desk_view c.try_first.new.self) c.loop-turn.invariant (goes_until (store g.N.Naming.name.start g.N.StoreNaming.opening g.N.ProgramNaming.program g.N.ServedNaming.arities g.N.ServedNaming.always) (desk_view c.loop-turn.self) (desk_view c.try_first.new.self) goes)) c.in_err-try_first.ensures.err)
