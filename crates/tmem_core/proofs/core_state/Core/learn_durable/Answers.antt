use Rattle.std.proofs.Common.{◌≡◌, ℕ, ◌+◌, ◌-◌, length, drop, arith, subst}
use Rattle.std.proofs.lemmas.List.Elements.{All-drop}
use Rattle.tmem_effect.specs.Loggable.{IsLoggable}
use Rattle.tmem_core.specs.History.{IsFolded, effects_of}
use Rattle.tmem_core.proofs.Folded.{folded-drop}
use Rattle.tmem_core.proofs.core_state.Core.learn_durable.Goals as goal

pub invariant_of-self-clause-folded : goal.invariant_of-self-clause-folded
invariant_of-self-clause-folded g c =
    let core = c.args.self.now in
    let k = c.args.number - core.durable in
    let same : core.durable + k ≡ c.args.number = omega (arith, c.requires.known) in
    rw c.drop_oldest.ensures (subst (λ (n : ℕ). ∥ IsFolded core.opened.value (effects_of core.history) n (drop k core.waiting) core.state ∥₁) same
    (folded-drop core.opened.value (effects_of core.history) core.durable core.waiting core.state core.folded k))

pub invariant_of-self-clause-each : goal.invariant_of-self-clause-each
invariant_of-self-clause-each g c =
    let core = c.args.self.now in
    rw c.drop_oldest.ensures (All-drop (IsLoggable (length core.state.values)) (c.args.number - core.durable) core.waiting core.each)
