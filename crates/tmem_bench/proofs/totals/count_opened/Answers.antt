use Rattle.std.proofs.Common.{◌≡◌, ℕ, ◌≤◌, ◌*◌, ◌∙◌, ap, arith, subst, sym}
use Rattle.tmem_effect.specs.State.{State}
use Rattle.tmem_core.specs.Program.{Program}
use Rattle.tmem_spine.specs.History.{count}
use Rattle.tmem_spine.specs.Views.{PassRoleView, SpineName}
use Rattle.tmem_front.specs.Held.{front_found}
use Rattle.tmem_seats.specs.Histories.{IsPossibleValue}
use Rattle.tmem_front.proofs.Laws.{front_sync}
use Rattle.tmem_bench.specs.Counting.{counting}
use Rattle.tmem_bench.proofs.Summed.{counted_at_most}
use denote.Param.Send.{sendable}
use Rattle.tmem_bench.proofs.totals.count_opened.Goals as goal

pub work_and_flush-requires-sync-F : goal.work_and_flush-requires-sync-F
work_and_flush-requires-sync-F g c κs within = search (sendable, front_sync, c.type_bounds) depth 12

pub returns : goal.returns
returns g c =
    let found = front_found c.args.opened in
    let start = g.N.Naming.name.start in
    let told = c.last_look.ensures in
    let new = c.in_ok-pass.ensures.pass.0 in
    let committed = counted_at_most (λ n. n ≤ c.args.work.turns) c.args.work.workers c.args.work.turns c.in_ok-committed.committed (λ n most. most) c.in_ok-committed.ensures in
    let value : IsPossibleValue counting g.N.StoreNaming.opening 0 c.last_look.result.value = subst (λ (p : Program). IsPossibleValue p g.N.StoreNaming.opening 0 c.last_look.result.value) c.requires.program told.value in
    let begun : count start c.in_ok-pass.pass.seen ≡ start = ap (λ (v : PassRoleView). count start v.seen) new ∙ (omega arith) in
    let named : start ≡ found.count = ap (λ (n : SpineName). n.start) (sym c.requires.spine) ∙ c.args.opened.starts in
    let least = told.least in
    record {
      most = subst (λ (n : ℕ). n ≤ c.args.work.workers * c.args.work.turns) (sym told.committed) committed;
      value = subst (λ (s : State). IsPossibleValue counting s 0 c.last_look.result.value) (sym c.requires.opening) value;
      durable = omega (arith, least, begun, named);
    }
