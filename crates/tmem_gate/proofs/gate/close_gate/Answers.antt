use Rattle.std.proofs.Common.{◌+◌, ◌≤◌, List, ℕ, length, sym, subst, arith}
use Rattle.std.proofs.lemmas.Result.{on_ok_weaker}
use Rattle.tmem_disk.proofs.Laws.{Elapses-write}
use Rattle.tmem_gate.specs.Gate.{IsClosed}
use Rattle.tmem_gate.proofs.Laws.{whole_after, closed_by_zero, in_time}
use Rattle.tmem_gate.proofs.gate.close_gate.Goals as goal

pub returns-clause-any_moment : goal.returns-clause-any_moment
returns-clause-any_moment g c = λ body has. record {
  each = λ k d left.
      let old = g.D.Disk.view c.args.disk.now in
      let new = g.D.Disk.view c.write_at.new.self in
      let model = c.write_at.ensures.call.model in
      let from = (in_time c.args.at 1 old new (g.met.D.Disk.is_device c.args.disk.now) model (Elapses-write old new c.args.at 1 c.write_at.ensures.time c.write_at.ensures.crash)).each k d left in
      whole_after c.args.at body from.0 d (has.each (model k) from.0 from.1) from.2;
}

pub returns-clause-closed : goal.returns-clause-closed
returns-clause-closed g c = λ k. on_ok_weaker c.write_at.result
    (λ written.
    let old = g.D.Disk.view c.args.disk.now in
    let fits : c.args.at + 1 ≤ length old.seen = omega (arith, c.requires, (g.met.D.Disk.is_device c.args.disk.now).seen_is_whole (c.write_at.ensures.call.model k)) in
    subst (λ (l : List ℕ). IsClosed c.args.at l) (sym (written k)) (closed_by_zero c.args.at old.seen fits))
    c.write_at.ensures.written
