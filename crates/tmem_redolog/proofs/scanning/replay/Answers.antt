use Rattle.std.proofs.Common.{◌≤◌, ◌<◌, ◌^◌, ℕ, List, length, sym, ◌∙◌, ap, subst, arith}
use Rattle.std.proofs.lemmas.Result.{err_from_is_err_and}
use Rattle.tmem_gate.specs.Gate.{IsOpenOver}
use Rattle.tmem_record.specs.Spelling.{number_bytes}
use Rattle.tmem_effect.specs.State.{State}
use Rattle.tmem_effect.proofs.Laws.{StaysWithin-last, length-values-fold}
use Rattle.tmem_redolog.specs.Log.{IsWithin}
use Rattle.tmem_redolog.specs.Scans.{Replays, MayReplay}
use Rattle.tmem_redolog.proofs.Scanned.{reached_first, reached_by, none_replayed}
use Rattle.tmem_redolog.proofs.scanning.replay.Goals as goal

pub loop-k-init : goal.loop-k-init
loop-k-init c = record {
  sized = c.requires.sized;
  within = c.recall_limits.ensures;
  reached = λ d is. reached_first c.args.version c.args.layout.vars c.args.layout.slots c.args.generation c.args.state.now d;
}

pub returns-in_err-replay_slot-clause-refused : goal.returns-in_err-replay_slot-clause-refused
returns-in_err-replay_slot-clause-refused c =
    let returned = err_from_is_err_and c.from_residual.result c.from_residual.ensures.1 in
    let few : c.args.layout.vars ≤ 2 ^ 16 = omega (arith, c.args.layout.fits.vars_fit) in
    let fits : c.args.generation < 2 ^ 64 = omega (arith, c.ranges.generation) in
    let below : c.loop-k.k < c.args.layout.slots = omega arith in
    let carries = subst (λ (l : List ℕ). IsOpenOver 0 (number_bytes 8 c.args.generation) l) c.slot_of-slot.ensures.bytes (c.carries.ensures.0 c.if-not-carries.false) in
    rw returned.1 (λ d is batches holds. none_replayed c.args.version c.args.layout.vars c.args.layout.slots c.args.generation few fits c.args.state.now d c.args.log.now is c.loop-k.k c.loop-k.state below carries
    (λ es may. c.in_err-replay_slot.ensures.refused es (subst (λ (l : List ℕ). MayReplay c.args.version c.args.layout.vars c.args.generation c.loop-k.state l es) (sym c.slot_of-slot.ensures.bytes) may))
    (c.loop-k.invariant.reached d is) batches holds)

pub loop-k-preserved : goal.loop-k-preserved
loop-k-preserved c =
    let few : c.args.layout.vars ≤ 2 ^ 16 = omega (arith, c.args.layout.fits.vars_fit) in
    let fits : c.args.generation < 2 ^ 64 = omega (arith, c.ranges.generation) in
    let below : c.loop-k.k < c.args.layout.slots = omega arith in
    let replays = subst (λ (l : List ℕ). Replays c.args.version c.args.layout.vars c.args.generation c.loop-k.state l c.replay_slot.new.state) c.slot_of-slot.ensures.bytes c.in_ok-replay_slot.ensures.replayed in
    record {
      sized = ap (λ (s : State). length s.values) (sym replays.state) ∙ length-values-fold c.loop-k.state replays.es ∙ c.loop-k.invariant.sized;
      within = subst IsWithin replays.state (StaysWithin-last c.loop-k.state replays.es replays.within);
      reached = λ d is. reached_by c.args.version c.args.layout.vars c.args.layout.slots c.args.generation few fits c.args.state.now d c.args.log.now is c.loop-k.k c.loop-k.state c.replay_slot.new.state below replays (c.loop-k.invariant.reached d is);
    }
