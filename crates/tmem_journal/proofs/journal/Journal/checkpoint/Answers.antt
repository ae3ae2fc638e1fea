use Rattle.std.proofs.Common.{ℕ, ◌≡◌, ◌≤◌, ◌+◌, ◌-◌, ◌*◌, ◌<◌, ◌^◌, ◌∙◌, true, false, refl, sym, ap, subst, arith}
use Rattle.std.proofs.lemmas.Bool.{true≢false, false≢true}
use Rattle.tmem_disk.specs.Disk.{LeavesOnly}
use Rattle.tmem_gate.proofs.Laws.{WritesWithin-refl}
use Rattle.tmem_record.specs.Layout.{image_at, image_size, end_at}
use Rattle.tmem_effect.specs.State.{fold}
use Rattle.tmem_image.specs.Image.{IsGeneration, other_copy}
use Rattle.tmem_image.specs.Pages.{HoldsOthers, pages_at}
use Rattle.tmem_redolog.specs.declared.log.Log.{Log}
use Rattle.tmem_journal.specs.Contents.{position_in, ContentRepresents}
use Rattle.tmem_journal.proofs.Answered.{ok_is_no_refusal, closed_is_not_device, closed_is_not_unknown, spent_is_not_device, spent_is_not_unknown, checkpoint_failed}
use Rattle.tmem_journal.proofs.Logged.{other_one}
use Rattle.tmem_journal.proofs.Migrated.{no_call, any_position}
use Rattle.tmem_journal.proofs.Renewed.{state_either}
use Rattle.tmem_journal.proofs.journal.Journal.checkpoint.Goals as goal

pub returns-then-is_closed : goal.returns-then-is_closed
returns-then-is_closed g c =
    let j = c.args.self.now in
    let view = g.D.Disk.view j.disk in
    let shut : j.is_closed ≡ true = sym c.is_closed.ensures ∙ c.if-is_closed.true in
    record {
      uses = record { capacity = refl; model = λ k. k; failures = refl };
      layout = refl;
      checkpointed = (shut, refl);
      gate_write_failed = λ is. absurd (closed_is_not_unknown is);
      certain = λ is. absurd (closed_is_not_device is);
      any_moment = λ running. absurd (false≢true (sym running ∙ shut));
      elsewhere = WritesWithin-refl (image_at j.layout.vars 0) (2 * image_size j.layout.vars + 4096 * j.layout.slots) view (g.met.D.Disk.is_device j.disk);
    }

pub returns-then-self : goal.returns-then-self
returns-then-self g c =
    let j = c.args.self.now in
    let view = g.D.Disk.view j.disk in
    let device = g.met.D.Disk.is_device j.disk in
    let running : j.is_closed ≡ false = sym c.is_closed.ensures ∙ c.if-is_closed.false in
    record {
      uses = record { capacity = refl; model = λ k. k; failures = refl };
      layout = refl;
      checkpointed = (running, omega (arith, c.if-self.true), refl);
      gate_write_failed = λ is. absurd (spent_is_not_unknown is);
      certain = λ is. absurd (spent_is_not_device is);
      any_moment = λ _. no_call view _ _ device (j.sure running) (λ content stands. any_position stands);
      elsewhere = WritesWithin-refl (image_at j.layout.vars 0) (2 * image_size j.layout.vars + 4096 * j.layout.slots) view device;
    }

pub renew-requires : goal.renew-requires
renew-requires g c =
    let j = c.args.self.now in
    let running : j.is_closed ≡ false = cc in
    record {
      room = j.room;
      one = j.one;
      number = omega (arith, j.number.fits);
      sized = j.sized;
      synced = j.synced running;
      stands = j.sure running;
      others = j.spare_pages running;
    }

pub invariant_of-self : goal.invariant_of-self
invariant_of-self g c =
    let j = c.args.self.now in
    let new = g.D.Disk.view c.renew.new.disk in
    let it = c.in-Ok.ensures in
    let emptied : c.renew.new.log ≡ record { generation = j.log.generation + 1; used = 0 } = it.emptied in
    let below : j.log.generation + 1 < 2 ^ 64 = omega (arith, j.number.fits, c.if-self.false) in
    let back : j.copy ≡ other_copy (1 - j.copy) = omega (arith, j.one) in
    record {
      room = subst (λ (n : ℕ). end_at j.layout.vars j.layout.slots ≤ n) (sym it.uses.capacity) j.room;
      sized = j.sized;
      one = other_one j.copy;
      number = subst (λ (l : Log). IsGeneration l.generation) (sym emptied) (record { some = omega arith; fits = below });
      few = omega (arith, ap (λ (l : Log). l.used) emptied);
      certain = j.certain;
      stands = state_either _ it.stands;
      current = it.current refl;
      sure = λ _. subst (λ (l : Log). LeavesOnly new (ContentRepresents j.layout.vars j.layout.slots (position_in (1 - j.copy) l) j.state)) (sym emptied) it.sure;
      synced = λ _. it.durable;
      ahead = λ running k above below. it.closed k below;
      chosen_pages = λ _. it.written;
      spare_pages = λ running.
          subst (λ (copy : ℕ). LeavesOnly new (HoldsOthers (pages_at j.layout.vars copy) j.layout.vars j.changed.chosen j.state.values)) back (it.aside j.changed.chosen j.state.values (j.chosen_pages running));
    }

pub returns-in-Ok : goal.returns-in-Ok
returns-in-Ok g c =
    let j = c.args.self.now in
    let it = c.in-Ok.ensures in
    let running : j.is_closed ≡ false = sym c.is_closed.ensures ∙ c.if-is_closed.false in
    record {
      uses = record { capacity = it.uses.capacity; model = it.uses.model; failures = it.uses.failures };
      layout = refl;
      checkpointed = (
        record { running = running; left = omega (arith, j.number.fits, c.if-self.false) },
        record { state = refl; doubtful = ap (fold j.state) (j.certain running); position = ap (λ (l : Log). position_in (1 - j.copy) l) it.emptied; closed = running },
      );
      gate_write_failed = λ is. absurd (ok_is_no_refusal is);
      certain = λ is. absurd (ok_is_no_refusal is);
      any_moment = λ _. it.any_moment;
      elsewhere = it.elsewhere;
    }

pub invariant_of-self-in-Err : goal.invariant_of-self-in-Err
invariant_of-self-in-Err g c =
    let j = c.args.self.now in
    let it = c.in-Err.ensures in
    record {
      room = subst (λ (n : ℕ). end_at j.layout.vars j.layout.slots ≤ n) (sym it.uses.capacity) j.room;
      sized = j.sized;
      one = j.one;
      number = subst (λ (l : Log). IsGeneration l.generation) (sym it.stays) j.number;
      few = omega (arith, ap (λ (l : Log). l.used) it.stays, j.few);
      certain = λ running. absurd (true≢false running);
      stands = state_either _ it.stands;
      current = it.current refl;
      sure = λ running. absurd (true≢false running);
      synced = λ running. absurd (true≢false running);
      ahead = λ running. absurd (true≢false running);
      chosen_pages = λ running. absurd (true≢false running);
      spare_pages = λ running. absurd (true≢false running);
    }

pub returns-in-Err : goal.returns-in-Err
returns-in-Err g c =
    let j = c.args.self.now in
    let it = c.in-Err.ensures in
    let running : j.is_closed ≡ false = sym c.is_closed.ensures ∙ c.if-is_closed.false in
    record {
      uses = record { capacity = it.uses.capacity; model = it.uses.model; failures = it.uses.failures };
      layout = refl;
      checkpointed = checkpoint_failed j _ c.in-Err.refused it.errors
          (record { running = running; left = omega (arith, j.number.fits, c.if-self.false) })
          (record { state = refl; doubtful = ap (fold j.state) (j.certain running); position = ap (λ (l : Log). position_in j.copy l) it.stays; closed = refl })
          it.call_failed it.gate_failed;
      gate_write_failed = it.gate_write_failed;
      certain = it.certain;
      any_moment = λ _. it.any_moment;
      elsewhere = it.elsewhere;
    }
