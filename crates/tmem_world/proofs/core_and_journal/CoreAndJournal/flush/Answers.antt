use Rattle.std.proofs.Common.{◌≡◌, ◌∙◌, inl, inr, Ok, ℕ, length, drop, sym, ap, subst, arith, refl}
use Rattle.std.specs.Prelude.{Result}
use Rattle.tmem_fault.specs.declared.fault.Fault.{Fault}
use Rattle.tmem_effect.specs.State.{State, StaysWithin, fold}
use Rattle.tmem_core.specs.Held.{waiting_of, is_shut_of}
use Rattle.tmem_journal.specs.Held as journal
use Rattle.tmem_journal.specs.Journals as journals
use Rattle.tmem_world.specs.CoresAndJournals.{waiting_after}
use Rattle.tmem_world.proofs.TakenBatches.{loggable_within, nothing_waits, some_wait, within_taken, within_rest, rest_waits, number_taken, behind, handed}
use Rattle.tmem_world.proofs.RefusedFlushes.{state_still, table_still, known_then, over_then, waits_then, within_then, waiting_then}
use Rattle.tmem_world.proofs.WrittenSlots.{flush_called, called_nothing}
use Rattle.tmem_world.proofs.core_and_journal.CoreAndJournal.flush.Goals as goal

pub flush-flushed-requires-clause-within : goal.flush-flushed-requires-clause-within
flush-flushed-requires-clause-within g c = within_taken c.args.self.now c.durable-durable.result c.durable-durable.ensures c.take.new.batch c.take.ensures.rest

pub learn_durable-requires-clause-known : goal.learn_durable-requires-clause-known
learn_durable-requires-clause-known g c =
    let o = c.args.self.now in
    let flushed = subst (λ (x : Result ℕ Fault). journals.Flushes o.journal c.take.new.batch x c.flush-flushed.new.self) c.in-Ok.is c.flush-flushed.ensures.flushed in
    omega (arith, flushed.1, number_taken o c.durable-durable.result c.durable-durable.ensures c.take.new.batch c.take.ensures.rest)

pub learn_durable-requires-clause-committed : goal.learn_durable-requires-clause-committed
learn_durable-requires-clause-committed g c =
    let o = c.args.self.now in
    let flushed = subst (λ (x : Result ℕ Fault). journals.Flushes o.journal c.take.new.batch x c.flush-flushed.new.self) c.in-Ok.is c.flush-flushed.ensures.flushed in
    omega (arith, flushed.1, number_taken o c.durable-durable.result c.durable-durable.ensures c.take.new.batch c.take.ensures.rest, c.durable-durable.ensures, c.take.ensures.reached)

pub invariant_of-self-clause-waits : goal.invariant_of-self-clause-waits
invariant_of-self-clause-waits g c =
    let o = c.args.self.now in
    let flushed = subst (λ (x : Result ℕ Fault). journals.Flushes o.journal c.take.new.batch x c.flush-flushed.new.self) c.in-Ok.is c.flush-flushed.ensures.flushed in
    let left = ap (λ v. v.waiting) c.learn_durable.ensures ∙ behind o c.durable-durable.result c.durable-durable.ensures c.take.new.batch c.take.ensures.rest c.in-Ok.number flushed.1 in
    ap (fold (journal.journal_state c.flush-flushed.new.self)) left ∙ ap (λ (s : State). fold s (drop (length c.take.new.batch) (waiting_of o.core))) flushed.2.state ∙ rest_waits o c.durable-durable.result c.durable-durable.ensures c.take.new.batch c.take.ensures.rest ∙ sym (ap (λ v. v.state) c.learn_durable.ensures)

pub invariant_of-self-clause-within : goal.invariant_of-self-clause-within
invariant_of-self-clause-within g c =
    let o = c.args.self.now in
    let flushed = subst (λ (x : Result ℕ Fault). journals.Flushes o.journal c.take.new.batch x c.flush-flushed.new.self) c.in-Ok.is c.flush-flushed.ensures.flushed in
    let left = ap (λ v. v.waiting) c.learn_durable.ensures ∙ behind o c.durable-durable.result c.durable-durable.ensures c.take.new.batch c.take.ensures.rest c.in-Ok.number flushed.1 in
    subst (StaysWithin (journal.journal_state c.flush-flushed.new.self)) (sym left)
    (subst (λ (s : State). StaysWithin s (drop (length c.take.new.batch) (waiting_of o.core))) (sym flushed.2.state) (within_rest o c.durable-durable.result c.durable-durable.ensures c.take.new.batch c.take.ensures.rest))

pub returns-in-Ok-clause-flushed : goal.returns-in-Ok-clause-flushed
returns-in-Ok-clause-flushed g c =
    let o = c.args.self.now in
    let es = c.take.new.batch in
    let flushed = subst (λ (x : Result ℕ Fault). journals.Flushes o.journal es x c.flush-flushed.new.self) c.in-Ok.is c.flush-flushed.ensures.flushed in
    let left : waiting_of c.learn_durable.new.self ≡ drop (length es) (waiting_of o.core) = ap (λ v. v.waiting) c.learn_durable.ensures ∙ behind o c.durable-durable.result c.durable-durable.ensures es c.take.ensures.rest c.in-Ok.number flushed.1 in
    let waits : waiting_of c.learn_durable.new.self ≡ waiting_after c.flush-flushed.result (waiting_of o.core) (drop (length es) (waiting_of o.core)) = subst (λ (x : Result ℕ Fault). waiting_of c.learn_durable.new.self ≡ waiting_after x (waiting_of o.core) (drop (length es) (waiting_of o.core))) (sym c.in-Ok.is) left in
    let some = c.take.ensures.some (some_wait o.core c.durable-durable.result c.count.result c.durable-durable.ensures c.count.ensures c.if-durable-count.false) in
    handed o c.durable-durable.result c.durable-durable.ensures es c.take.ensures.rest _ c.flush-flushed.result (sym c.if-is_shut.ensures) some c.take.ensures.few c.take.ensures.taken c.flush-flushed.ensures.flushed waits

pub returns-in-Ok-clause-device : goal.returns-in-Ok-clause-device
returns-in-Ok-clause-device g c =
    let o = c.args.self.now in
    let so = c.flush-flushed.ensures in
    flush_called o _ (g.met.D.Disk.is_device (journal.disk_of o.journal)) c.take.new.batch c.flush-flushed.result so.uses so.any_moment so.flushed so.elsewhere so.layout (ap (λ v. v.state) c.learn_durable.ensures) (ap (λ v. v.table) c.learn_durable.ensures)

pub returns-then-is_closed-clause-device : goal.returns-then-is_closed-clause-device
returns-then-is_closed-clause-device g c =
    let o = c.args.self.now in
    let so = c.flush-flushed.ensures in
    let es = c.take.new.batch in
    let x = c.flush-flushed.result in
    flush_called o _ (g.met.D.Disk.is_device (journal.disk_of o.journal)) es x so.uses so.any_moment so.flushed so.elsewhere so.layout
    (state_still o c.flush-flushed.new.self es x _ c.in-Err.is so.flushed c.shut.new.self _ c.shut.ensures) (table_still o c.flush-flushed.new.self es x _ c.in-Err.is so.flushed c.shut.new.self _ c.shut.ensures)

pub returns-else-is_closed-clause-device : goal.returns-else-is_closed-clause-device
returns-else-is_closed-clause-device g c =
    let o = c.args.self.now in
    let so = c.flush-flushed.ensures in
    flush_called o _ (g.met.D.Disk.is_device (journal.disk_of o.journal)) c.take.new.batch c.flush-flushed.result so.uses so.any_moment so.flushed so.elsewhere so.layout refl refl

pub returns-then-durable-count-clause-flushed : goal.returns-then-durable-count-clause-flushed
returns-then-durable-count-clause-flushed g c =
    let o = c.args.self.now in
    inr (inl (record {
      answered = ap (λ (n : ℕ). Ok n) c.durable-durable.ensures;
      running = sym c.if-is_shut.ensures;
      none = nothing_waits o.core c.durable-durable.result c.count.result c.durable-durable.ensures c.count.ensures c.if-durable-count.true;
      same = refl;
    }))

pub returns-then-durable-count-clause-device : goal.returns-then-durable-count-clause-device
returns-then-durable-count-clause-device g c =
    let o = c.args.self.now in
    called_nothing _ _ o (g.met.D.Disk.is_device (journal.disk_of o.journal)) _ (record { capacity = refl; model = λ k. k; failures = refl })

pub returns-then-is_shut-clause-device : goal.returns-then-is_shut-clause-device
returns-then-is_shut-clause-device g c =
    let o = c.args.self.now in
    called_nothing _ _ o (g.met.D.Disk.is_device (journal.disk_of o.journal)) _ (record { capacity = refl; model = λ k. k; failures = refl })

pub flush-flushed-requires-clause-some : goal.flush-flushed-requires-clause-some
flush-flushed-requires-clause-some g c =
    let o = c.args.self.now in
    c.take.ensures.some (some_wait o.core c.durable-durable.result c.count.result c.durable-durable.ensures c.count.ensures c.if-durable-count.false)

pub flush-flushed-requires-clause-variables : goal.flush-flushed-requires-clause-variables
flush-flushed-requires-clause-variables g c = loggable_within _ _ c.take.new.batch c.args.self.now.over c.take.ensures.each

pub returns-then-is_closed-clause-flushed : goal.returns-then-is_closed-clause-flushed
returns-then-is_closed-clause-flushed g c =
    let o = c.args.self.now in
    let es = c.take.new.batch in
    let x = c.flush-flushed.result in
    let flushed = c.flush-flushed.ensures.flushed in
    let some = c.take.ensures.some (some_wait o.core c.durable-durable.result c.count.result c.durable-durable.ensures c.count.ensures c.if-durable-count.false) in
    handed o c.durable-durable.result c.durable-durable.ensures es c.take.ensures.rest _ x (sym c.if-is_shut.ensures) some c.take.ensures.few c.take.ensures.taken flushed (waiting_then o c.flush-flushed.new.self es x _ c.in-Err.is flushed c.shut.new.self _ c.shut.ensures _)

pub returns-else-is_closed-clause-flushed : goal.returns-else-is_closed-clause-flushed
returns-else-is_closed-clause-flushed g c =
    let o = c.args.self.now in
    let es = c.take.new.batch in
    let x = c.flush-flushed.result in
    let flushed = c.flush-flushed.ensures.flushed in
    let some = c.take.ensures.some (some_wait o.core c.durable-durable.result c.count.result c.durable-durable.ensures c.count.ensures c.if-durable-count.false) in
    handed o c.durable-durable.result c.durable-durable.ensures es c.take.ensures.rest _ x (sym c.if-is_shut.ensures) some c.take.ensures.few c.take.ensures.taken flushed (waiting_then o c.flush-flushed.new.self es x _ c.in-Err.is flushed o.core (is_shut_of o.core) refl _)

pub invariant_of-self-then-is_closed : goal.invariant_of-self-then-is_closed
invariant_of-self-then-is_closed g c =
    let o = c.args.self.now in
    let so = c.flush-flushed.ensures in
    let j = c.flush-flushed.new.self in
    let es = c.take.new.batch in
    let x = c.flush-flushed.result in
    let new = c.shut.new.self in
    record {
      known = known_then o j es x _ c.in-Err.is so.flushed new _ c.shut.ensures;
      shut = ap (λ v. v.is_shut) c.shut.ensures ∙ sym (sym c.is_closed.ensures ∙ c.if-is_closed.true);
      over = over_then o j es x _ c.in-Err.is so.flushed new _ c.shut.ensures so.layout;
      waits = waits_then o j es x _ c.in-Err.is so.flushed new _ c.shut.ensures;
      within = within_then o j es x _ c.in-Err.is so.flushed new _ c.shut.ensures;
    }

pub invariant_of-self-else-is_closed : goal.invariant_of-self-else-is_closed
invariant_of-self-else-is_closed g c =
    let o = c.args.self.now in
    let so = c.flush-flushed.ensures in
    let j = c.flush-flushed.new.self in
    let es = c.take.new.batch in
    let x = c.flush-flushed.result in
    record {
      known = known_then o j es x _ c.in-Err.is so.flushed o.core (is_shut_of o.core) refl;
      shut = sym c.if-is_shut.ensures ∙ sym (sym c.is_closed.ensures ∙ c.if-is_closed.false);
      over = over_then o j es x _ c.in-Err.is so.flushed o.core (is_shut_of o.core) refl so.layout;
      waits = waits_then o j es x _ c.in-Err.is so.flushed o.core (is_shut_of o.core) refl;
      within = within_then o j es x _ c.in-Err.is so.flushed o.core (is_shut_of o.core) refl;
    }
