use Rattle.std.proofs.Common.{Err, refl, sym, ◌∙◌, ap, inl, inr, true, false}
use Rattle.std.proofs.lemmas.Bool.{false≢true}
use Rattle.std.proofs.lemmas.Result.{err_from_is_err_and}
use Rattle.tmem_disk.proofs.Laws.{LeavesOnly-each}
use Rattle.tmem_disk.specs.declared.disk.DeviceFault.{DeviceFault}
use Rattle.tmem_disk.proofs.Laws.{fails_last, fails_not}
use Rattle.tmem_gate.proofs.Calls.{reads_only_never}
use Rattle.tmem_gate.proofs.Laws.{reads_only, by_look, WritesWithin-trans}
use Rattle.tmem_gate.proofs.cell.close_if_open.Goals as goal

pub returns-in_err-close_gate-clause-within : goal.returns-in_err-close_gate-clause-within
returns-in_err-close_gate-clause-within g c =
    let read = c.is_open.ensures in
    WritesWithin-trans c.args.at 1 _ _ _ c.close_gate.ensures.call.model (by_look c.args.at 1 _ _ (g.met.D.Disk.is_device c.args.disk.now) read.call.model (reads_only _ _ read.seen (LeavesOnly-each _ _ read.crash) read.time)) c.close_gate.ensures.elsewhere

pub returns-in_ok-close_gate-clause-within : goal.returns-in_ok-close_gate-clause-within
returns-in_ok-close_gate-clause-within g c =
    let read = c.is_open.ensures in
    WritesWithin-trans c.args.at 1 _ _ _ c.close_gate.ensures.call.model (by_look c.args.at 1 _ _ (g.met.D.Disk.is_device c.args.disk.now) read.call.model (reads_only _ _ read.seen (LeavesOnly-each _ _ read.crash) read.time)) c.close_gate.ensures.elsewhere

-- a read that fails
pub returns-in_err-open-clause-call : goal.returns-in_err-open-clause-call
returns-in_err-open-clause-call g c =
    let returned = err_from_is_err_and c.from_residual.result c.from_residual.ensures.1 in
    let it = c.in_err-open.ensures.call in
    fails_last _ _ _ refl refl (λ k. k) c.in_err-open.field-0.0 it c.from_residual.result (returned.1 ∙ ap (λ (f : DeviceFault). Err f) returned.2) (inl it.fault)

pub returns-in_err-open-clause-within : goal.returns-in_err-open-clause-within
returns-in_err-open-clause-within g c =
    let read = c.is_open.ensures in
    by_look c.args.at 1 _ _ (g.met.D.Disk.is_device c.args.disk.now) read.call.model (reads_only _ _ read.seen (LeavesOnly-each _ _ read.crash) read.time)

pub returns-in_err-open-clause-closed : goal.returns-in_err-open-clause-closed
returns-in_err-open-clause-closed g c = rw (err_from_is_err_and c.from_residual.result c.from_residual.ensures.1).1 (λ _. tt)

pub returns-in_err-open-clause-reads_only : goal.returns-in_err-open-clause-reads_only
returns-in_err-open-clause-reads_only g c = rw (err_from_is_err_and c.from_residual.result c.from_residual.ensures.1).1 tt

pub returns-in_err-open-clause-idle : goal.returns-in_err-open-clause-idle
returns-in_err-open-clause-idle g c = λ shut.
    let read = c.is_open.ensures in
    reads_only _ _ read.seen (LeavesOnly-each _ _ read.crash) read.time

pub returns-in_err-open-clause-idle_answer : goal.returns-in_err-open-clause-idle_answer
returns-in_err-open-clause-idle_answer g c = λ k shut.
    let returned = err_from_is_err_and c.from_residual.result c.from_residual.ensures.1 in
    rw returned.1 (returned.2 ∙ c.in_err-open.ensures.call.fault)

-- a gate that is open, and cannot be closed
pub returns-in_err-close_gate-clause-call : goal.returns-in_err-close_gate-clause-call
returns-in_err-close_gate-clause-call g c =
    let returned = err_from_is_err_and c.from_residual-in_err-close_gate.result c.from_residual-in_err-close_gate.ensures.1 in
    let read = c.in_ok-open.ensures.call in
    let it = c.in_err-close_gate.ensures.call in
    fails_last _ _ _ read.capacity read.ok read.model c.in_err-close_gate.field-0.0 it c.from_residual-in_err-close_gate.result (returned.1 ∙ ap (λ (f : DeviceFault). Err f) returned.2) (inr it.fault)

pub returns-in_err-close_gate-clause-closed : goal.returns-in_err-close_gate-clause-closed
returns-in_err-close_gate-clause-closed g c = rw (err_from_is_err_and c.from_residual-in_err-close_gate.result c.from_residual-in_err-close_gate.ensures.1).1 (λ _. tt)

pub returns-in_err-close_gate-clause-reads_only : goal.returns-in_err-close_gate-clause-reads_only
returns-in_err-close_gate-clause-reads_only g c = rw (err_from_is_err_and c.from_residual-in_err-close_gate.result c.from_residual-in_err-close_gate.ensures.1).1 tt

pub returns-in_err-close_gate-clause-idle : goal.returns-in_err-close_gate-clause-idle
returns-in_err-close_gate-clause-idle g c = λ shut.
    reads_only_never _ _ (λ k. shut.not_open ((c.in_ok-open.ensures.open (c.close_gate.ensures.call.model k)).0 c.if-open.true))

pub returns-in_err-close_gate-clause-idle_answer : goal.returns-in_err-close_gate-clause-idle_answer
returns-in_err-close_gate-clause-idle_answer g c = λ k shut.
    absurd (shut.not_open ((c.in_ok-open.ensures.open (c.close_gate.ensures.call.model k)).0 c.if-open.true))

-- one that is closed now
pub returns-in_ok-close_gate-clause-call : goal.returns-in_ok-close_gate-clause-call
returns-in_ok-close_gate-clause-call g c =
    let read = c.in_ok-open.ensures.call in
    fails_not _ _ _ read.capacity read.ok read.model c.in_ok-close_gate.field-0 read.last c.in_ok-close_gate.ensures.call c.in_ok-open.open

pub returns-in_ok-close_gate-clause-closed : goal.returns-in_ok-close_gate-clause-closed
returns-in_ok-close_gate-clause-closed g c = c.in_ok-close_gate.ensures.closed

pub returns-in_ok-close_gate-clause-reads_only : goal.returns-in_ok-close_gate-clause-reads_only
returns-in_ok-close_gate-clause-reads_only g c = λ not. absurd (false≢true (sym not ∙ c.if-open.true))

pub returns-in_ok-close_gate-clause-idle : goal.returns-in_ok-close_gate-clause-idle
returns-in_ok-close_gate-clause-idle g c = λ shut.
    reads_only_never _ _ (λ k. shut.not_open ((c.in_ok-open.ensures.open (c.close_gate.ensures.call.model k)).0 c.if-open.true))

pub returns-in_ok-close_gate-clause-idle_answer : goal.returns-in_ok-close_gate-clause-idle_answer
returns-in_ok-close_gate-clause-idle_answer g c = λ k shut.
    absurd (shut.not_open ((c.in_ok-open.ensures.open (c.close_gate.ensures.call.model k)).0 c.if-open.true))

-- and one that was
pub returns-else-open-clause-call : goal.returns-else-open-clause-call
returns-else-open-clause-call g c = fails_not _ _ _ refl refl (λ k. k) c.in_ok-open.open refl c.in_ok-open.ensures.call c.in_ok-open.open

pub returns-else-open-clause-within : goal.returns-else-open-clause-within
returns-else-open-clause-within g c =
    let read = c.is_open.ensures in
    by_look c.args.at 1 _ _ (g.met.D.Disk.is_device c.args.disk.now) read.call.model (reads_only _ _ read.seen (LeavesOnly-each _ _ read.crash) read.time)

pub returns-else-open-clause-closed : goal.returns-else-open-clause-closed
returns-else-open-clause-closed g c = λ k.
    let it = c.in_ok-open.ensures in
    record { not_open = λ is. absurd (false≢true (sym c.if-open.false ∙ (it.open k).1 (rw (it.seen k) at is))) }

pub returns-else-open-clause-reads_only : goal.returns-else-open-clause-reads_only
returns-else-open-clause-reads_only g c = λ not.
    let read = c.is_open.ensures in
    reads_only _ _ read.seen (LeavesOnly-each _ _ read.crash) read.time

pub returns-else-open-clause-idle : goal.returns-else-open-clause-idle
returns-else-open-clause-idle g c = λ shut.
    let read = c.is_open.ensures in
    reads_only _ _ read.seen (LeavesOnly-each _ _ read.crash) read.time

pub returns-else-open-clause-idle_answer : goal.returns-else-open-clause-idle_answer
returns-else-open-clause-idle_answer g c = λ k shut. c.if-open.false
