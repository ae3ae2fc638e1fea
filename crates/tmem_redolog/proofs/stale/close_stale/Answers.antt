use Rattle.std.proofs.Common.{ℕ, List, Err, refl, sym, ◌∙◌, ap, subst}
use Rattle.std.proofs.lemmas.Bool.{false≢true}
use Rattle.std.proofs.lemmas.Result.{err_from_is_err_and}
use Rattle.tmem_disk.specs.declared.disk.DeviceFault.{DeviceFault}
use Rattle.tmem_gate.specs.Gate.{IsClosed}
use Rattle.tmem_gate.proofs.Laws.{reads_only, OnlyReads-trans}
use Rattle.tmem_record.specs.Layout.{slot_at}
use Rattle.tmem_disk.proofs.Laws.{fails_last, fails_not}
use Rattle.tmem_redolog.proofs.Closing.{Closes-then_look, closed_still}
use Rattle.tmem_redolog.proofs.stale.close_stale.Goals as goal

pub returns-in_err-close_gates-clause-closes : goal.returns-in_err-close_gates-clause-closes
returns-in_err-close_gates-clause-closes g c = c.close_gates.ensures.closes c.args.log.now.generation

pub returns-in_err-sync-clause-closes : goal.returns-in_err-sync-clause-closes
returns-in_err-sync-clause-closes g c =
    let sync = c.sync.ensures in
    Closes-then_look c.args.layout.vars c.args.layout.slots c.args.log.now.generation c.args.log.now.used _ _ _ (g.met.D.Disk.is_device c.close_gates.new.disk) sync.call.model (c.close_gates.ensures.closes c.args.log.now.generation) (reads_only _ _ sync.seen sync.crash sync.time)

pub returns-in_ok-sync-clause-closes : goal.returns-in_ok-sync-clause-closes
returns-in_ok-sync-clause-closes g c =
    let sync = c.sync.ensures in
    Closes-then_look c.args.layout.vars c.args.layout.slots c.args.log.now.generation c.args.log.now.used _ _ _ (g.met.D.Disk.is_device c.close_gates.new.disk) sync.call.model (c.close_gates.ensures.closes c.args.log.now.generation) (reads_only _ _ sync.seen sync.crash sync.time)

pub returns-in_err-close_gates-clause-closed : goal.returns-in_err-close_gates-clause-closed
returns-in_err-close_gates-clause-closed g c = rw (err_from_is_err_and c.from_residual.result c.from_residual.ensures.1).1 (λ _. tt)

pub returns-in_err-close_gates-clause-durable : goal.returns-in_err-close_gates-clause-durable
returns-in_err-close_gates-clause-durable g c = rw (err_from_is_err_and c.from_residual.result c.from_residual.ensures.1).1 (λ _. tt)

pub returns-in_err-close_gates-clause-read_closed : goal.returns-in_err-close_gates-clause-read_closed
returns-in_err-close_gates-clause-read_closed g c = rw (err_from_is_err_and c.from_residual.result c.from_residual.ensures.1).1 (λ _. tt)

pub returns-in_err-close_gates-clause-call : goal.returns-in_err-close_gates-clause-call
returns-in_err-close_gates-clause-call g c =
    let returned = err_from_is_err_and c.from_residual.result c.from_residual.ensures.1 in
    fails_last _ _ _ refl refl (λ keeps. keeps) c.in_err-close_gates.field-0.0 c.in_err-close_gates.ensures.call c.from_residual.result (returned.1 ∙ ap (λ (f : DeviceFault). Err f) returned.2) tt

pub returns-in_err-sync-clause-read_closed : goal.returns-in_err-sync-clause-read_closed
returns-in_err-sync-clause-read_closed g c = rw (err_from_is_err_and c.from_residual-in_err-sync.result c.from_residual-in_err-sync.ensures.1).1 (λ _. tt)

pub returns-in_err-sync-clause-call : goal.returns-in_err-sync-clause-call
returns-in_err-sync-clause-call g c =
    let returned = err_from_is_err_and c.from_residual-in_err-sync.result c.from_residual-in_err-sync.ensures.1 in
    let before = c.in_ok-close_gates.ensures.call in
    fails_last _ _ _ before.capacity before.ok before.model c.in_err-sync.field-0.0 c.in_err-sync.ensures.call c.from_residual-in_err-sync.result (returned.1 ∙ ap (λ (f : DeviceFault). Err f) returned.2) tt

pub returns-in_err-sync-clause-durable : goal.returns-in_err-sync-clause-durable
returns-in_err-sync-clause-durable g c = rw (err_from_is_err_and c.from_residual-in_err-sync.result c.from_residual-in_err-sync.ensures.1).1 (λ _. tt)

pub returns-in_err-sync-clause-closed : goal.returns-in_err-sync-clause-closed
returns-in_err-sync-clause-closed g c = rw (err_from_is_err_and c.from_residual-in_err-sync.result c.from_residual-in_err-sync.ensures.1).1 (λ _. tt)

pub returns-in_ok-sync-clause-read_closed : goal.returns-in_ok-sync-clause-read_closed
returns-in_ok-sync-clause-read_closed g c = λ keeps.
    closed_still c.args.layout.vars c.args.log.now.used c.args.layout.slots (g.D.Disk.view c.close_gates.new.disk) (g.D.Disk.view c.sync.new.self) (c.sync.ensures.call.model keeps) c.sync.ensures.seen c.in_ok-close_gates.ensures.closed keeps

pub returns-in_ok-sync-clause-call : goal.returns-in_ok-sync-clause-call
returns-in_ok-sync-clause-call g c =
    let before = c.in_ok-close_gates.ensures.call in
    fails_not _ _ _ before.capacity before.ok before.model c.in_ok-sync.field-0 before.last c.in_ok-sync.ensures.call tt

pub returns-in_ok-sync-clause-closed : goal.returns-in_ok-sync-clause-closed
returns-in_ok-sync-clause-closed g c =
    let it = c.in_ok-sync.ensures in
    λ synced k above below. record {
      each = λ keeps left may. subst (λ (l : List ℕ). IsClosed (slot_at c.args.layout.vars k) l) (sym (it.durable keeps left may))
          (returns-in_ok-sync-clause-read_closed g c keeps k above below);
    }

pub returns-else-branch-clause-closes : goal.returns-else-branch-clause-closes
returns-else-branch-clause-closes g c = c.close_gates.ensures.closes c.args.log.now.generation

pub returns-in_ok-sync-clause-idle : goal.returns-in_ok-sync-clause-idle
returns-in_ok-sync-clause-idle g c = λ shut.
    let sync = c.sync.ensures in
    OnlyReads-trans _ _ _ sync.call.model (c.close_gates.ensures.idle shut) (reads_only _ _ sync.seen sync.crash sync.time)

pub returns-in_err-sync-clause-idle : goal.returns-in_err-sync-clause-idle
returns-in_err-sync-clause-idle g c = λ shut.
    let sync = c.sync.ensures in
    OnlyReads-trans _ _ _ sync.call.model (c.close_gates.ensures.idle shut) (reads_only _ _ sync.seen sync.crash sync.time)

pub returns-in_err-sync-clause-idle_fault : goal.returns-in_err-sync-clause-idle_fault
returns-in_err-sync-clause-idle_fault g c = λ keeps shut.
    absurd (false≢true (sym (c.in_ok-close_gates.ensures.idle_answer (c.sync.ensures.call.model keeps) shut) ∙ c.if-branch.true))

pub returns-in_err-close_gates-clause-idle_fault : goal.returns-in_err-close_gates-clause-idle_fault
returns-in_err-close_gates-clause-idle_fault g c = λ keeps shut.
    let returned = err_from_is_err_and c.from_residual.result c.from_residual.ensures.1 in
    rw returned.1 (returned.2 ∙ c.in_err-close_gates.ensures.idle_answer keeps shut)
