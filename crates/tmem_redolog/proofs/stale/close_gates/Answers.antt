use Rattle.std.proofs.Common.{ℕ, Err, ap, ◌∙◌, ◌≡◌, ◌⊎◌, inl, inr, ◌+◌, true, false, refl, subst, sym, arith}
use Rattle.std.proofs.lemmas.Result.{err_from_is_err_and}
use Rattle.tmem_disk.specs.declared.disk.DeviceFault.{DeviceFault}
use Rattle.tmem_gate.specs.Gate.{IsClosed}
use Rattle.tmem_gate.proofs.Laws.{closed_along, OnlyReads-refl, OnlyReads-trans}
use Rattle.tmem_disk.proofs.Laws.{fails_last}
use Rattle.tmem_redolog.proofs.Closing.{gate_fits, reads_only_given, closed_up_to, Sets-refl, Sets-next, sets_closes, shut_in, idle_next, idle_so_far, closed_next, no_gate_open, none_open_yet}
use Rattle.tmem_redolog.proofs.stale.close_gates.Goals as goal
use Rattle.tmem_redolog.proofs.stale.close_gates.Goals.{then-any, else-any}

pub loop-k-init : goal.loop-k-init
loop-k-init g c = record {
  capacity = refl;
  failures = refl;
  last = refl;
  gates = Sets-refl c.args.layout.vars c.args.layout.slots c.args.from _ (g.met.D.Disk.is_device c.args.disk.now);
  closed = λ k j above below. absurd (omega (arith, above, below));
  reads_only = λ none. OnlyReads-refl _;
  idle = λ k shut. refl;
}

pub returns-in_err-closed-clause-closes : goal.returns-in_err-closed-clause-closes
returns-in_err-closed-clause-closes g c = λ generation.
    let layout = c.args.layout in
    let device = g.met.D.Disk.is_device in
    let it = c.close_if_open.ensures in
    sets_closes layout.vars layout.slots c.args.from (c.loop-k.k + 1) generation _ _ (device c.args.disk.now) (device c.close_if_open.new.disk)
    (Sets-next layout.vars layout.slots c.args.from c.loop-k.k c.loop-k.auto.k c.loop-k-test.true _ _ _ (device c.args.disk.now) (device c.loop-k.disk) it.call.model c.loop-k.invariant.gates (rw c.slot.ensures at it.within) (rw c.slot.ensures at it.idle))

pub returns-in_err-closed-clause-idle : goal.returns-in_err-closed-clause-idle
returns-in_err-closed-clause-idle g c = λ shut.
    let layout = c.args.layout in
    let device = g.met.D.Disk.is_device in
    let it = c.close_if_open.ensures in
    idle_next layout.vars layout.slots c.args.from c.loop-k.k c.loop-k.auto.k c.loop-k-test.true _ _ _ (device c.args.disk.now) (device c.loop-k.disk) it.call.model c.loop-k.invariant.gates (rw c.slot.ensures at it.within) (rw c.slot.ensures at it.idle)
    (idle_so_far layout.vars layout.slots c.args.from c.loop-k.k _ _ c.loop-k.any (omega arith) c.loop-k.invariant shut) shut

pub close_if_open-requires : goal.close_if_open-requires
close_if_open-requires g c = gate_fits c.args.layout.vars c.args.layout.slots c.loop-k.k _ _ _ c.loop-k-test.true c.slot.ensures c.requires.room c.loop-k.invariant.capacity

pub loop-k-preserved : goal.loop-k-preserved
loop-k-preserved g c =
    let vars = c.args.layout.vars in
    let slots = c.args.layout.slots in
    let low = c.loop-k.auto.k in
    let high = c.loop-k-test.true in
    let old = g.D.Disk.view c.args.disk.now in
    let mid = g.D.Disk.view c.loop-k.disk in
    let new = g.D.Disk.view c.close_if_open.new.disk in
    let device = g.met.D.Disk.is_device c.args.disk.now in
    let device_mid = g.met.D.Disk.is_device c.loop-k.disk in
    let model = c.close_if_open.ensures.call.model in
    let before = c.loop-k.invariant in
    let within = rw c.slot.ensures at c.close_if_open.ensures.within in
    let idle = rw c.slot.ensures at c.close_if_open.ensures.idle in
    let either : ((c.loop-k.any ≡ true) × (c.if-any.any ≡ true)) ⊎ ((c.loop-k.any ≡ false) × (c.if-any.any ≡ c.in_ok-closed.closed)) =
    elim c.if-any.branch [
      | then-any w ↦ inl (w.if-any.true, w.any-is ∙ w.if-any.true)
      | else-any w ↦ inr (w.if-any.false, w.any-is)
    ] in
    record {
      capacity = c.in_ok-closed.ensures.call.capacity ∙ before.capacity;
      failures = c.in_ok-closed.ensures.call.ok ∙ before.failures;
      last = c.in_ok-closed.ensures.call.last ∙ before.last;
      gates = Sets-next vars slots c.args.from c.loop-k.k low high old mid new device device_mid model before.gates within idle;
      closed = λ k. closed_next vars slots c.args.from c.loop-k.k low high old mid new device device_mid model before.gates within idle before.closed k (subst (λ n. IsClosed n new.seen) c.slot.ensures (c.in_ok-closed.ensures.closed k));
      reads_only = λ none.
          let both = no_gate_open c.loop-k.any c.in_ok-closed.closed c.if-any.any either none in
          OnlyReads-trans old mid new model (before.reads_only both.0) (c.in_ok-closed.ensures.reads_only both.1);
      idle = λ k shut.
          let here = shut_in vars slots c.args.from c.loop-k.k low high old mid new device device_mid model before.gates within idle (model k) (shut c.loop-k.k low (omega arith)) in
          none_open_yet c.loop-k.any c.in_ok-closed.closed c.if-any.any either (before.idle (model k) (λ j above below. shut j above (omega arith)))
          (c.in_ok-closed.ensures.idle_answer k (subst (λ n. IsClosed n mid.seen) (sym c.slot.ensures) here));
    }

pub returns-clause-closes : goal.returns-clause-closes
returns-clause-closes g c = λ generation.
    sets_closes c.args.layout.vars c.args.layout.slots c.args.from c.loop-k.k generation _ _ (g.met.D.Disk.is_device c.args.disk.now) (g.met.D.Disk.is_device c.loop-k.disk) c.loop-k.invariant.gates

pub returns-clause-idle : goal.returns-clause-idle
returns-clause-idle g c = λ shut. reads_only_given _ _ (idle_so_far c.args.layout.vars c.args.layout.slots c.args.from c.loop-k.k _ _ c.loop-k.any (omega arith) c.loop-k.invariant shut)

pub returns-clause-closed : goal.returns-clause-closed
returns-clause-closed g c = λ keeps.
    closed_up_to c.args.layout.vars c.args.from c.loop-k.k c.args.layout.slots (g.D.Disk.view c.loop-k.disk) c.loop-k-test.false (c.loop-k.invariant.closed keeps)

pub returns-clause-idle_answer : goal.returns-clause-idle_answer
returns-clause-idle_answer g c = λ keeps shut.
    c.loop-k.invariant.idle keeps (closed_up_to c.args.layout.vars c.args.from c.args.layout.slots c.loop-k.k (g.D.Disk.view c.args.disk.now) (c.loop-k.auto.k-end c.requires.used) shut)

pub returns-in_err-closed-clause-call : goal.returns-in_err-closed-clause-call
returns-in_err-closed-clause-call g c =
    let returned = err_from_is_err_and c.from_residual.result c.from_residual.ensures.1 in
    let before = c.loop-k.invariant in
    fails_last _ _ _ before.capacity before.failures before.gates.model c.in_err-closed.field-0.0 c.in_err-closed.ensures.call c.from_residual.result (returned.1 ∙ ap (λ (f : DeviceFault). Err f) returned.2) c.in_err-closed.ensures.call.fault

pub returns-in_err-closed-clause-reads_only : goal.returns-in_err-closed-clause-reads_only
returns-in_err-closed-clause-reads_only g c = rw (err_from_is_err_and c.from_residual.result c.from_residual.ensures.1).1 tt

pub returns-in_err-closed-clause-closed : goal.returns-in_err-closed-clause-closed
returns-in_err-closed-clause-closed g c = rw (err_from_is_err_and c.from_residual.result c.from_residual.ensures.1).1 (λ _. tt)

pub returns-in_err-closed-clause-idle_answer : goal.returns-in_err-closed-clause-idle_answer
returns-in_err-closed-clause-idle_answer g c = λ keeps shut.
    let returned = err_from_is_err_and c.from_residual.result c.from_residual.ensures.1 in
    let it = c.close_if_open.ensures in
    let before = it.call.model keeps in
    let here = closed_along ((c.loop-k.invariant.gates.seen before).not_yet c.loop-k.k (omega arith) c.loop-k-test.true) (shut c.loop-k.k c.loop-k.auto.k c.loop-k-test.true) in
    rw returned.1 (returned.2 ∙ c.in_err-closed.ensures.idle_answer keeps (subst (λ (n : ℕ). IsClosed n (g.D.Disk.view c.loop-k.disk).seen) (sym c.slot.ensures) here))
