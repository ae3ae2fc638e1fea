use Rattle.std.proofs.Common.{◌≡◌, ap, refl, ◌∙◌, rules}
use Rattle.std.specs.Prelude.{Some, Ok, Err}
use Rattle.tmem_journal.specs.Held as journal
use Rattle.tmem_world.specs.declared.held.Held.TheVariants.{With}
use Rattle.tmem_world.specs.Represents.{held_of, world_disk}
use Rattle.tmem_world.proofs.Points.{held_is, is_with, with_core, both_of_it, held_as, call_moments, flushes_without}
use Rattle.tmem_world.proofs.FlushedPoints.{flushes}
use Rattle.tmem_event.specs.declared.event.Reply.TheVariants as reply
use Rattle.tmem_world.proofs.CalledWorlds.{called_keeps, called_fails, flushed_still}
use Rattle.tmem_world.proofs.WrittenSlots.{flush_within}
use Rattle.tmem_world.proofs.world.World.flush.Goals.{in_default-via-in-Some+in-Without-1, in_default-via-in-None-1}
use Rattle.tmem_world.proofs.world.World.flush.Goals as goal

pub returns-in-Ok : goal.returns-in-Ok
returns-in-Ok g c =
    let w = c.args.self.now in
    let o = c.in-Some-With.both in
    let before : held_of w ≡ With o = held_is w.held w.here (With o) (c.in-Some-With.is ∙ ap Some c.in-Some-With.field-0-is) in
    let so = c.in-Ok.ensures in
    record {
      step = λ program means m r keeps.
          let done = flushes program w _ m o c.flush.new.self r before refl refl (Ok c.in-Ok.durable) so.device so.flushed in
          (done.0, with_core program (held_of w) m _ _ _ r.held (is_with (held_of w) o before) done.1, done.2);
      reopened = tt;
      any_moment = call_moments w _ refl o c.flush.new.self before refl so.device.any_moment;
      elsewhere = flush_within w o (journal.journal_device c.flush.new.self.journal) before so.device.elsewhere;
      failures = called_fails w o before _ (reply.Durable c.in-Ok.durable) so.device.uses.failures;
      failed_call = tt;
      still = λ is. flushed_still w o before c.flush.new.self c.in-Ok.durable so.flushed is;
      kept = called_keeps w o before _ c.flush.new.self refl refl refl so.device.table so.device.uses.model;
    }

pub returns-in-Err : goal.returns-in-Err
returns-in-Err g c =
    let w = c.args.self.now in
    let o = c.in-Some-With.both in
    let before : held_of w ≡ With o = held_is w.held w.here (With o) (c.in-Some-With.is ∙ ap Some c.in-Some-With.field-0-is) in
    let so = c.in-Err.ensures in
    record {
      step = λ program means m r keeps.
          let done = flushes program w _ m o c.flush.new.self r before refl refl (Err c.in-Err.fault) so.device so.flushed in
          (done.0, with_core program (held_of w) m _ _ _ r.held (is_with (held_of w) o before) done.1, done.2);
      reopened = tt;
      any_moment = call_moments w _ refl o c.flush.new.self before refl so.device.any_moment;
      elsewhere = flush_within w o (journal.journal_device c.flush.new.self.journal) before so.device.elsewhere;
      failures = called_fails w o before _ (reply.Fault c.in-Err.fault) so.device.uses.failures;
      failed_call = search rules;
      still = search rules;
      kept = called_keeps w o before _ c.flush.new.self refl refl refl so.device.table so.device.uses.model;
    }

pub returns-in_default : goal.returns-in_default
returns-in_default g c =
    let w = c.args.self.now in
    let new = c.in_default.self in
    elim c.in_default.branch [
      | in_default-via-in-Some+in-Without-1 v ↦
          let same : new.held ≡ w.held = search rules in
          flushes_without w new (λ it. let o = both_of_it (held_of w) it in let there : w.held ≡ Some (With o.0) = held_as w.held w.here (With o.0) o.1 in cc) (ap (λ x. x.layout) v.self-is) (ap (λ x. x.steps) v.self-is) same (ap (λ x. x.attempts.items) v.self-is) (g.met.D.Disk.is_device (world_disk w))
      | in_default-via-in-None-1 v ↦ absurd (search rules)
    ]
