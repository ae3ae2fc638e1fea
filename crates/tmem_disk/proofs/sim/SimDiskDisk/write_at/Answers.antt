use Rattle.std.proofs.lemmas.Grind.{common_steps}
use Rattle.std.proofs.Common.{arith, rules, inr, length, refl, sym, ap, ◌∙◌}
use Rattle.tmem_disk.specs.declared.failures.Failures.{Failures}
use Rattle.tmem_disk.specs.Sim.{Bytes}
use Rattle.tmem_disk.specs.SimParts.{sim_view}
use Rattle.tmem_disk.proofs.Calls.{call_fails, call_works}
use Rattle.tmem_disk.proofs.Ranges.{length-overwritten}
use Rattle.tmem_disk.proofs.Laws.{LeavesOnly-each, Rewritten-left, SameOutside-overwritten, SameOutside-refl, still_leaves}
use Rattle.tmem_disk.proofs.Writing.{bytes_after_write-runs, only_fails-IsArmed}
use Rattle.tmem_disk.proofs.sim.SimDiskDisk.write_at.Goals as goal

pub returns-then-only_fails_at_write-clause-still : goal.returns-then-only_fails_at_write-clause-still
returns-then-only_fails_at_write-clause-still c = still_leaves (sim_view c.args.self.now) (sim_view c.touch.new.self) _ _ c.touch.ensures.crash

pub returns-then-only_fails_at_write-clause-fails : goal.returns-then-only_fails_at_write-clause-fails
returns-then-only_fails_at_write-clause-fails c =
    let is = sym c.only_fails_at_write.ensures.fails ∙ c.if-only_fails_at_write.true in
    (λ failed. inr (only_fails-IsArmed c.args.self.now.power c.args.at is), search rules)

pub returns-then-only_fails_at_write-clause-bytes : goal.returns-then-only_fails_at_write-clause-bytes
returns-then-only_fails_at_write-clause-bytes c =
    let is = sym c.only_fails_at_write.ensures.fails ∙ c.if-only_fails_at_write.true in
    c.touch.ensures.bytes ∙ sym (bytes_after_write-runs c.args.self.now.power c.args.at c.args.bytes.now _ _ (search rules) is)

pub returns-then-is_crashed-2-clause-still : goal.returns-then-is_crashed-2-clause-still
returns-then-is_crashed-2-clause-still c = still_leaves (sim_view c.args.self.now) (sim_view c.store.new.self) _ _ c.store.ensures.crash

pub returns-then-is_crashed-2-clause-bytes : goal.returns-then-is_crashed-2-clause-bytes
returns-then-is_crashed-2-clause-bytes c =
    let is = sym c.only_fails_at_write.ensures.fails ∙ c.if-only_fails_at_write.false in
    c.store.ensures.bytes ∙ sym (bytes_after_write-runs c.args.self.now.power c.args.at c.args.bytes.now _ _ (search rules) is)

pub returns-clause-crash : goal.returns-clause-crash
returns-clause-crash c = LeavesOnly-each _ _ c.store.ensures.crash

pub returns-clause-still : goal.returns-clause-still
returns-clause-still c = still_leaves (sim_view c.args.self.now) (sim_view c.store.new.self) _ _ c.store.ensures.crash

pub returns-clause-fails : goal.returns-clause-fails
returns-clause-fails c = grind (arith, common_steps)

pub returns-clause-bytes : goal.returns-clause-bytes
returns-clause-bytes c =
    let is = sym c.only_fails_at_write.ensures.fails ∙ c.if-only_fails_at_write.false in
    c.store.ensures.bytes ∙ sym (bytes_after_write-runs c.args.self.now.power c.args.at c.args.bytes.now _ _ (search rules) is)

pub returns-then-is_crashed-clause-call : goal.returns-then-is_crashed-clause-call
returns-then-is_crashed-clause-call c = call_fails _ _ _ refl c.note.ensures.count c.note.ensures.last (λ k. k)

pub returns-then-is_crashed-clause-crash : goal.returns-then-is_crashed-clause-crash
returns-then-is_crashed-clause-crash c = record { each = λ k l left. Rewritten-left c.args.at (length c.args.bytes.now) (sim_view c.args.self.now) l left }

pub returns-then-is_crashed-clause-elsewhere : goal.returns-then-is_crashed-clause-elsewhere
returns-then-is_crashed-clause-elsewhere c = λ k. SameOutside-refl c.args.at (length c.args.bytes.now) c.args.self.now.present.items

pub returns-then-only_fails_at_write-clause-call : goal.returns-then-only_fails_at_write-clause-call
returns-then-only_fails_at_write-clause-call c =
    let note = c.note-then-only_fails_at_write.ensures in
    call_fails _ _ _ (ap (λ (b : Bytes). length b.present) c.touch.ensures.bytes) (rw c.touch.ensures.failures at note.count) note.last (λ k. k)

pub returns-then-only_fails_at_write-clause-crash : goal.returns-then-only_fails_at_write-clause-crash
returns-then-only_fails_at_write-clause-crash c = record { each = (LeavesOnly-each (sim_view c.touch.new.self) _ c.touch.ensures.crash).each }

pub returns-then-only_fails_at_write-clause-elsewhere : goal.returns-then-only_fails_at_write-clause-elsewhere
returns-then-only_fails_at_write-clause-elsewhere c =
    let kept = ap (λ (b : Bytes). b.present) c.touch.ensures.bytes in
    λ k. rw kept (SameOutside-refl c.args.at (length c.args.bytes.now) c.args.self.now.present.items)

pub returns-then-is_crashed-2-clause-call : goal.returns-then-is_crashed-2-clause-call
returns-then-is_crashed-2-clause-call c =
    let note = c.note-then-is_crashed-2.ensures in
    let long = ap (λ (b : Bytes). length b.present) c.store.ensures.bytes ∙ length-overwritten c.args.self.now.present.items c.args.at c.args.bytes.now c.requires in
    call_fails _ _ _ long (rw c.store.ensures.failures at note.count) note.last (λ k. k)

pub returns-then-is_crashed-2-clause-crash : goal.returns-then-is_crashed-2-clause-crash
returns-then-is_crashed-2-clause-crash c = record { each = (LeavesOnly-each (sim_view c.store.new.self) _ c.store.ensures.crash).each }

pub returns-then-is_crashed-2-clause-elsewhere : goal.returns-then-is_crashed-2-clause-elsewhere
returns-then-is_crashed-2-clause-elsewhere c =
    let written = ap (λ (b : Bytes). b.present) c.store.ensures.bytes in
    λ k. rw written (SameOutside-overwritten c.args.self.now.present.items c.args.at c.args.bytes.now c.requires)

pub returns-clause-call : goal.returns-clause-call
returns-clause-call c =
    let long = ap (λ (b : Bytes). length b.present) c.store.ensures.bytes ∙ length-overwritten c.args.self.now.present.items c.args.at c.args.bytes.now c.requires in
    call_works _ _ _ _ long (ap (λ (f : Failures). f.count) c.store.ensures.failures) (ap (λ (f : Failures). f.last) c.store.ensures.failures) (λ k. k)

pub returns-clause-elsewhere : goal.returns-clause-elsewhere
returns-clause-elsewhere c =
    let written = ap (λ (b : Bytes). b.present) c.store.ensures.bytes in
    λ k. rw written (SameOutside-overwritten c.args.self.now.present.items c.args.at c.args.bytes.now c.requires)
