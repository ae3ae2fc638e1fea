use Rattle.std.proofs.lemmas.Grind.{common_steps}
use Rattle.std.proofs.Common.{ℕ, ℤ, ◌≤◌, ◌<◌, inl, List, length, arith, refl, sym, ◌∙◌, ap, subst}
use Rattle.std.specs.Prelude.{All}
use Rattle.std.proofs.lemmas.Bool.{true≢false}
use Rattle.tmem_disk.specs.Disk.{LeavesOnly}
use Rattle.tmem_gate.specs.Gate.{HasBody}
use Rattle.tmem_gate.proofs.Laws.{WritesWithin-refl}
use Rattle.tmem_effect.specs.State.{State, fold, StaysWithin}
use Rattle.tmem_effect.specs.declared.effect.Effect.{Effect}
use Rattle.tmem_effect.proofs.Laws.{length-values-fold}
use Rattle.tmem_record.specs.Layout.{slot_at, end_at}
use Rattle.tmem_record.specs.Spelling.{batch_bytes}
use Rattle.tmem_state.specs.declared.version.Version.TheVariants.{Two}
use Rattle.tmem_image.specs.Image.{IsGeneration, other_copy}
use Rattle.tmem_redolog.specs.Appends.{batch_placed}
use Rattle.tmem_redolog.specs.declared.log.Log.{Log}
use Rattle.tmem_journal.specs.Contents.{Position, position_in, next_slot, ContentRepresents}
use Rattle.tmem_journal.proofs.Answered.{ok_is_no_refusal, closed_is_not_device, closed_is_not_unknown, full_is_not_device, full_is_not_unknown, as_refusal, flush_failed}
use Rattle.tmem_journal.proofs.Logged.{before_slot, other_one}
use Rattle.tmem_journal.proofs.Renewed.{pages_folded}
use Rattle.tmem_journal.proofs.Unique.{same_position}
use Rattle.tmem_journal.proofs.Flushed.{full_is_not, sure_either, sure_ok, sure_err, current_err, moments_ok, moments_err}
use Rattle.tmem_journal.proofs.Recovers.{sure_current}
use Rattle.tmem_journal.proofs.journal.Journal.flush.Goals as goal

pub append-requires-clause-batch : goal.append-requires-clause-batch
append-requires-clause-batch g c = c.effects-effects.ensures.is_batch c.args.self.now.layout.vars c.requires.some c.requires.variables

pub pages_changed-pages-requires : goal.pages_changed-pages-requires
pages_changed-pages-requires g c =
    subst (λ (es : List Effect). All (λ (e : Effect). All (λ (w : ℕ × ℤ). w.0 < 1024) e.writes) es) (sym c.effects-effects.ensures.effects)
    (λ i d below j e less. omega (arith, c.requires.variables i d below j e less, c.args.self.now.layout.fits.vars_fit))

pub commit_all-requires : goal.commit_all-requires
commit_all-requires g c =
    let j = c.args.self.now in
    let same = sym c.effects-effects.ensures.effects in
    record {
      variables = subst (λ (es : List Effect). All (λ (e : Effect). All (λ (w : ℕ × ℤ). w.0 < length j.state.values) e.writes) es) same
          (subst (λ (n : ℕ). All (λ (e : Effect). All (λ (w : ℕ × ℤ). w.0 < n) e.writes) c.args.batch.now) (sym j.sized) c.requires.variables);
      within = subst (λ (es : List Effect). StaysWithin j.state es) same c.requires.within;
    }

pub returns-then-self : goal.returns-then-self
returns-then-self g c =
    let j = c.args.self.now in
    let view = g.D.Disk.view j.disk in
    let device = g.met.D.Disk.is_device j.disk in
    record {
      uses = record { capacity = refl; model = λ k. k; failures = refl };
      layout = refl;
      flushed = (c.if-self.true, refl);
      elsewhere = WritesWithin-refl (slot_at j.layout.vars j.log.used) 4096 view device;
      gate_untouched = λ is. absurd (closed_is_not_device is);
      gate_failed = λ is. absurd (closed_is_not_unknown is);
      body_written = λ is. absurd (closed_is_not_unknown is);
      any_moment = record { each = λ k content left. ∣ inl (j.stands.each k content (device.only_now content k left)) ∣₁ };
    }

pub returns-then-self-2 : goal.returns-then-self-2
returns-then-self-2 g c =
    let j = c.args.self.now in
    let view = g.D.Disk.view j.disk in
    let device = g.met.D.Disk.is_device j.disk in
    record {
      uses = record { capacity = refl; model = λ k. k; failures = refl };
      layout = refl;
      flushed = (c.if-self.false, c.if-self-2.true, refl);
      elsewhere = WritesWithin-refl (slot_at j.layout.vars j.log.used) 4096 view device;
      gate_untouched = λ is. absurd (full_is_not_device is);
      gate_failed = λ is. absurd (full_is_not_unknown is);
      body_written = λ is. absurd (full_is_not_unknown is);
      any_moment = record { each = λ k content left. ∣ inl (j.stands.each k content (device.only_now content k left)) ∣₁ };
    }

pub invariant_of-self-in-Ok : goal.invariant_of-self-in-Ok
invariant_of-self-in-Ok g c =
    let j = c.args.self.now in
    let es = c.effects-effects.result.now in
    let old = g.D.Disk.view j.disk in
    let new = g.D.Disk.view c.append.new.disk in
    let p = batch_placed j.layout j.log c.count-first.result c.args.batch.now in
    let it = c.in-Ok.ensures in
    let sure = sure_ok old new p j.copy j.state (sym c.count-first.ensures) c.requires.within it.uses.model (j.sure c.if-self.false) c.commit_all.new.state (c.commit_all.ensures ∙ ap (fold j.state) c.effects-effects.ensures.effects) it.puts.stands in
    let after = same_position (position_in j.copy c.append.new.log) (next_slot (before_slot j.copy p)) refl refl it.generation it.next in
    record {
      room = subst (λ (n : ℕ). end_at j.layout.vars j.layout.slots ≤ n) (sym it.uses.capacity) j.room;
      sized = ap (λ (x : State). length x.values) c.commit_all.ensures ∙ length-values-fold j.state es ∙ j.sized;
      one = j.one;
      number = subst IsGeneration (sym it.generation) j.number;
      few = omega (arith, it.next, c.if-self-2.false, j.few);
      certain = j.certain;
      stands = sure_either _ sure;
      current = sure_current sure refl;
      sure = λ _. subst (λ (q : Position). LeavesOnly new (ContentRepresents j.layout.vars j.layout.slots q c.commit_all.new.state)) (sym after) sure;
      synced = λ _. it.durable;
      ahead = λ running k above below. it.behind k (omega (arith, above, it.next)) (j.ahead running k (omega (arith, above, it.next)) below);
      chosen_pages = λ running. pages_folded j.layout.vars j.copy j.log.used j.changed.chosen _ 4096 j.state es _ j.one c.pages_changed-pages.ensures (sym c.commit_all.ensures) old new it.uses.model it.puts.elsewhere (j.chosen_pages running);
      spare_pages = λ running. pages_folded j.layout.vars (other_copy j.copy) j.log.used j.changed.spare _ 4096 j.state es _ (other_one j.copy) c.pages_changed-pages.ensures (sym c.commit_all.ensures) old new it.uses.model it.puts.elsewhere (j.spare_pages running);
    }

pub returns-in-Ok : goal.returns-in-Ok
returns-in-Ok g c =
    let j = c.args.self.now in
    let p = batch_placed j.layout j.log c.count-first.result c.args.batch.now in
    let is = c.commit_all.ensures ∙ ap (fold j.state) c.effects-effects.ensures.effects in
    let it = c.in-Ok.ensures in
    record {
      uses = record { capacity = it.uses.capacity; model = it.uses.model; failures = it.uses.failures };
      layout = refl;
      flushed = (
        record { running = c.if-self.false; left = omega (arith, j.few) },
        cc (ap (λ (s : State). s.count) is),
        record {
          state = is;
          doubtful = ap (fold c.commit_all.new.state) (j.certain c.if-self.false) ∙ is;
          position = same_position (position_in j.copy c.append.new.log) (next_slot (before_slot j.copy p)) refl refl it.generation it.next;
          closed = c.if-self.false;
        },
      );
      elsewhere = it.puts.elsewhere;
      gate_untouched = λ is_err. absurd (ok_is_no_refusal is_err);
      gate_failed = λ is_err. absurd (ok_is_no_refusal is_err);
      body_written = λ is_err. absurd (ok_is_no_refusal is_err);
      any_moment = moments_ok (g.D.Disk.view j.disk) (g.D.Disk.view c.append.new.disk) p j.copy j.state (sym c.count-first.ensures) c.requires.within it.uses.model (j.sure c.if-self.false) c.commit_all.new.state _ _ is it.puts.any_moment;
    }

pub invariant_of-self-in-Err : goal.invariant_of-self-in-Err
invariant_of-self-in-Err g c =
    let j = c.args.self.now in
    let old = g.D.Disk.view j.disk in
    let new = g.D.Disk.view c.append.new.disk in
    let p = batch_placed j.layout j.log c.count-first.result c.args.batch.now in
    let it = c.in-Err.ensures in
    let not_full = full_is_not c.in-Err.fault j.log.used j.layout.slots c.if-self-2.false it.full in
    record {
      room = subst (λ (n : ℕ). end_at j.layout.vars j.layout.slots ≤ n) (sym it.uses.capacity) j.room;
      sized = j.sized;
      one = j.one;
      number = subst (λ (l : Log). IsGeneration l.generation) (sym it.stays) j.number;
      few = omega (arith, ap (λ (l : Log). l.used) it.stays, j.few);
      certain = λ running. absurd (true≢false running);
      stands = sure_err old new p j.copy j.state (sym c.count-first.ensures) c.requires.within it.uses.model (j.sure c.if-self.false) _ c.in-Err.fault it.errors not_full (ap (fold j.state) c.in_doubt.ensures) it.puts.stands;
      current = current_err old new p j.copy j.state (sym c.count-first.ensures) c.requires.within it.uses.model (j.sure c.if-self.false) c.in-Err.fault it.errors not_full it.puts.stands;
      sure = λ running. absurd (true≢false running);
      synced = λ running. absurd (true≢false running);
      ahead = λ running. absurd (true≢false running);
      chosen_pages = λ running. absurd (true≢false running);
      spare_pages = λ running. absurd (true≢false running);
    }

pub returns-in-Err : goal.returns-in-Err
returns-in-Err g c =
    let j = c.args.self.now in
    let new = g.D.Disk.view c.append.new.disk in
    let p = batch_placed j.layout j.log c.count-first.result c.args.batch.now in
    let it = c.in-Err.ensures in
    let not_full = full_is_not c.in-Err.fault j.log.used j.layout.slots c.if-self-2.false it.full in
    record {
      uses = record { capacity = it.uses.capacity; model = it.uses.model; failures = it.uses.failures };
      layout = refl;
      flushed = flush_failed j _ c.args.batch.now c.in-Err.fault it.errors not_full
          (record { running = c.if-self.false; left = omega (arith, c.if-self-2.false, j.few) })
          (record { state = refl; doubtful = ap (fold j.state) c.in_doubt.ensures; position = ap (λ (l : Log). position_in j.copy l) it.stays; closed = refl })
          it.write_failed;
      elsewhere = it.puts.elsewhere;
      gate_untouched = λ is. it.gate_untouched (as_refusal is);
      gate_failed = λ is. it.gate_failed (as_refusal is);
      body_written = λ is k. subst (λ (n : ℕ). HasBody (slot_at j.layout.vars j.log.used) (batch_bytes Two j.log.generation n c.args.batch.now) new.seen) c.count-first.ensures (it.body_written (as_refusal is) k);
      any_moment = moments_err (g.D.Disk.view j.disk) new p j.copy j.state (sym c.count-first.ensures) c.requires.within it.uses.model (j.sure c.if-self.false) _ _ c.in-Err.fault it.errors not_full (ap (fold j.state) c.in_doubt.ensures) it.puts.any_moment;
    }

pub invariant_of-self : goal.invariant_of-self
invariant_of-self g c = grind (arith, common_steps)
