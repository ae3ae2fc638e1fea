use Rattle.std.proofs.Common.{refl, ap}
use Rattle.tmem_core.specs.Held.{CoreView}
use Rattle.tmem_journal.specs.Held as journal
use Rattle.tmem_world.proofs.CheckpointedPoints.{meanwhile}
use Rattle.tmem_world.proofs.core_and_journal.CoreAndJournal.checkpoint.Goals as goal

pub returns-then-is_closed-clause-device : goal.returns-then-is_closed-clause-device
returns-then-is_closed-clause-device g c =
    let old = c.args.self.now.journal in
    let so = c.checkpoint-renewed.ensures in
    record {
      uses = so.uses;
      any_moment = meanwhile old c.checkpoint-renewed.new.self (g.met.D.Disk.is_device (journal.disk_of old)) c.checkpoint-renewed.result so.checkpointed so.any_moment;
      elsewhere = so.elsewhere;
      layout = so.layout;
      state = ap (λ (v : CoreView _). v.state) c.shut.ensures;
      table = ap (λ (v : CoreView _). v.table) c.shut.ensures;
    }

pub returns-else-is_closed-clause-device : goal.returns-else-is_closed-clause-device
returns-else-is_closed-clause-device g c =
    let old = c.args.self.now.journal in
    let so = c.checkpoint-renewed.ensures in
    record {
      uses = so.uses;
      any_moment = meanwhile old c.checkpoint-renewed.new.self (g.met.D.Disk.is_device (journal.disk_of old)) c.checkpoint-renewed.result so.checkpointed so.any_moment;
      elsewhere = so.elsewhere;
      layout = so.layout;
      state = refl;
      table = refl;
    }
