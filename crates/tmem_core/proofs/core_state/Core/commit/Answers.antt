use Rattle.std.proofs.Common.{◌≡◌, ◌+◌, ◌≤◌, List, length, sym, ap, subst, ◌∙◌, arith}
use Rattle.std.proofs.lemmas.List.Elements.{All-push}
use Rattle.tmem_effect.specs.declared.effect.Effect.{Effect}
use Rattle.tmem_effect.specs.State.{State, apply, IsWithin}
use Rattle.tmem_effect.proofs.Laws.{length-values-apply, AreRegistered-apply}
use Rattle.tmem_invariants.specs.Meanings.{AllHold}
use Rattle.tmem_invariants.specs.Indices.{AreIndicesOf}
use Rattle.tmem_effect.specs.Loggable.{IsLoggable}
use Rattle.tmem_core.proofs.Counts.{room_left, few_on, counts_on, count_left}
use Rattle.tmem_core.proofs.Known.{AreAmong}
use Rattle.tmem_core.specs.History.{effects_of}
use Rattle.tmem_core.proofs.Folded.{folded-push}
use Rattle.tmem_core.proofs.Indices.{writes_within}
use Rattle.tmem_core.proofs.core_state.Core.commit.Goals as goal

pub commit-requires-clause-within : goal.commit-requires-clause-within
commit-requires-clause-within g c = writes_within (length c.args.self.now.state.values) c.args.effect.now.writes c.requires.variables

pub invariant_of-self-clause-each : goal.invariant_of-self-clause-each
invariant_of-self-clause-each g c =
    let core = c.args.self.now in
    let e = c.args.effect.now in
    let vars = length core.state.values in
    let is : IsLoggable vars e = record { effect = c.is_empty.ensures.is_effect vars (writes_within vars e.writes c.requires.variables) c.requires.apart; not_empty = sym c.is_empty.ensures.empty ∙ c.if-is_empty.false } in
    rw (c.commit.ensures, c.push.ensures, length-values-apply core.state e) (All-push (IsLoggable vars) core.waiting e core.each is)

pub invariant_of-self-clause-registered : goal.invariant_of-self-clause-registered
invariant_of-self-clause-registered g c =
    let s = c.args.self.now.state in
    let e = c.args.effect.now in
    let is = c.is_empty.ensures.is_effect (length s.values) (writes_within (length s.values) e.writes c.requires.variables) c.requires.apart in
    rw c.commit.ensures (AreRegistered-apply s e is.names.names c.requires.room c.args.self.now.registered)

pub invariant_of-self-clause-folded : goal.invariant_of-self-clause-folded
invariant_of-self-clause-folded g c =
    let core = c.args.self.now in
    let within : IsWithin (apply core.state c.args.effect.now) = record { count = omega (arith, c.count-number.ensures, c.if-number.false); names = c.requires.room } in
    rw (c.commit.ensures, c.push.ensures, c.with.ensures) (folded-push core.opened.value (effects_of core.history) core.durable core.waiting core.state core.folded c.args.effect.now core.counted within)

pub invariant_of-self-clause-countable : goal.invariant_of-self-clause-countable
invariant_of-self-clause-countable g c = rw c.commit.ensures (omega (arith, c.count-number.ensures, c.if-number.false))

pub invariant_of-self-clause-sized : goal.invariant_of-self-clause-sized
invariant_of-self-clause-sized g c =
    let core = c.args.self.now in
    rw c.commit.ensures (core.sized ∙ sym (length-values-apply core.state c.args.effect.now))

pub invariant_of-self-clause-known : goal.invariant_of-self-clause-known
invariant_of-self-clause-known g c = subst (λ (s : State). AreAmong (g.T.Invariants.names c.args.self.now.table) s.names) (sym c.commit.ensures) c.requires.known

pub invariant_of-self-clause-sound : goal.invariant_of-self-clause-sound
invariant_of-self-clause-sound g c = λ m stated. subst (λ (s : State). AllHold m s.names s.values) (sym c.commit.ensures) (c.requires.sound m stated)

pub invariant_of-self-clause-indexed : goal.invariant_of-self-clause-indexed
invariant_of-self-clause-indexed g c =
    subst (λ (s : State). AreIndicesOf s.names (g.T.Invariants.names c.args.self.now.table) c.args.indices) (sym c.commit.ensures) c.requires.indices

pub commit-requires-clause-countable : goal.commit-requires-clause-countable
commit-requires-clause-countable g c =
    let core = c.args.self.now in
    count_left core.state.count c.count-number.result c.count-number.ensures core.countable c.if-number.false

pub push-requires : goal.push-requires
push-requires g c =
    let core = c.args.self.now in
    room_left core.state.count core.durable c.count-number.result core.waiting c.args.effect.now c.count-number.ensures core.counted core.few c.if-number-self.false

pub invariant_of-self-clause-few : goal.invariant_of-self-clause-few
invariant_of-self-clause-few g c =
    let core = c.args.self.now in
    subst (λ (es : List Effect). length es ≤ 256) (sym c.push.ensures) (few_on core.state.count core.durable c.count-number.result core.waiting c.args.effect.now c.count-number.ensures core.counted core.few c.if-number-self.false)

pub invariant_of-self-clause-counted : goal.invariant_of-self-clause-counted
invariant_of-self-clause-counted g c =
    let core = c.args.self.now in
    subst (λ (es : List Effect). c.commit.new.self.count ≡ core.durable + length es) (sym c.push.ensures)
    (ap (λ (s : State). s.count) c.commit.ensures ∙ counts_on core.state.count core.durable c.count-number.result core.waiting c.args.effect.now c.count-number.ensures core.counted)
