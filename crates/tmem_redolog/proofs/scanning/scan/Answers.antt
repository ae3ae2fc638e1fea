use Rattle.std.proofs.Common.{◌≤◌, ◌<◌, ◌^◌, sym, ◌∙◌, arith}
use Rattle.std.proofs.lemmas.Bool.{false≢true}
use Rattle.std.proofs.lemmas.Result.{err_from_is_err_and}
use Rattle.tmem_redolog.proofs.OneLog.{from_first}
use Rattle.tmem_redolog.proofs.Scanned.{log_found, no_log, as_damaged, is_log}
use Rattle.tmem_redolog.proofs.scanning.scan.Goals as goal

pub returns-in_err-used-clause-refused : goal.returns-in_err-used-clause-refused
returns-in_err-used-clause-refused g c =
    let returned = err_from_is_err_and c.from_residual-in_err-used.result c.from_residual-in_err-used.ensures.1 in
    let seen = (g.D.Disk.view c.args.disk.now).seen in
    rw (returned.1, returned.2) (as_damaged c.in_err-used.field-0.0 c.in_err-used.ensures.errors
    (λ k batches holds. c.in_err-used.ensures.refused seen (is_log c.args.layout.vars c.args.layout.slots c.slot.result _ seen c.in_ok-log.log.items c.deref-bytes.result.now c.slot.ensures c.requires.room (c.in_ok-log.ensures.bytes k) c.deref-bytes.ensures.value) batches (from_first holds)))

pub returns-then-not-are_closed_or_stale-clause-refused : goal.returns-then-not-are_closed_or_stale-clause-refused
returns-then-not-are_closed_or_stale-clause-refused g c = λ k batches holds.
    let seen = (g.D.Disk.view c.args.disk.now).seen in
    let few : c.args.layout.vars ≤ 2 ^ 16 = omega (arith, c.args.layout.fits.vars_fit) in
    let is = is_log c.args.layout.vars c.args.layout.slots c.slot.result _ seen c.in_ok-log.log.items c.deref-bytes.result.now c.slot.ensures c.requires.room (c.in_ok-log.ensures.bytes k) c.deref-bytes.ensures.value in
    false≢true (sym c.if-not-are_closed_or_stale.true ∙ c.are_closed_or_stale.ensures.1 (no_log c.args.version c.args.layout.vars c.args.layout.slots c.args.generation few holds.generation_fits c.args.state.now seen c.deref-bytes.result.now is
    c.in_ok-used.used c.replay.new.state c.in_ok-used.ensures.few c.in_ok-used.ensures.ends (c.in_ok-used.ensures.reached seen is) batches holds))

pub returns-clause-found : goal.returns-clause-found
returns-clause-found g c = λ k.
    let seen = (g.D.Disk.view c.args.disk.now).seen in
    let few : c.args.layout.vars ≤ 2 ^ 16 = omega (arith, c.args.layout.fits.vars_fit) in
    let fits : c.args.generation < 2 ^ 64 = omega (arith, c.ranges.generation) in
    let is = is_log c.args.layout.vars c.args.layout.slots c.slot.result _ seen c.in_ok-log.log.items c.deref-bytes.result.now c.slot.ensures c.requires.room (c.in_ok-log.ensures.bytes k) c.deref-bytes.ensures.value in
    log_found c.args.version c.args.layout.vars c.args.layout.slots c.args.generation few fits c.args.state.now seen c.deref-bytes.result.now is c.in_ok-used.used c.replay.new.state c.in_ok-used.ensures.few c.in_ok-used.ensures.ends
    (c.in_ok-used.ensures.reached seen is) c.in_ok-used.ensures.within (c.are_closed_or_stale.ensures.0 c.if-not-are_closed_or_stale.false)

pub returns-clause-few : goal.returns-clause-few
returns-clause-few g c = c.in_ok-used.ensures.few

pub returns-clause-sized : goal.returns-clause-sized
returns-clause-sized g c = c.in_ok-used.ensures.sized

pub returns-then-not-are_closed_or_stale-clause-uses : goal.returns-then-not-are_closed_or_stale-clause-uses
returns-then-not-are_closed_or_stale-clause-uses g c =
    let read = c.read_piece.ensures.uses in
    record { capacity = read.capacity; model = read.model; failures = c.in_ok-log.ensures.uses.failures }

pub returns-in_err-used-clause-few : goal.returns-in_err-used-clause-few
returns-in_err-used-clause-few g c = rw (err_from_is_err_and c.from_residual-in_err-used.result c.from_residual-in_err-used.ensures.1).1 tt

pub returns-in_err-used-clause-generation : goal.returns-in_err-used-clause-generation
returns-in_err-used-clause-generation g c = rw (err_from_is_err_and c.from_residual-in_err-used.result c.from_residual-in_err-used.ensures.1).1 tt

pub returns-in_err-used-clause-sized : goal.returns-in_err-used-clause-sized
returns-in_err-used-clause-sized g c = rw (err_from_is_err_and c.from_residual-in_err-used.result c.from_residual-in_err-used.ensures.1).1 tt

pub returns-in_err-used-clause-found : goal.returns-in_err-used-clause-found
returns-in_err-used-clause-found g c = rw (err_from_is_err_and c.from_residual-in_err-used.result c.from_residual-in_err-used.ensures.1).1 (λ _. tt)
