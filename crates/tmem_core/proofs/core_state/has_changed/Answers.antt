use Rattle.std.proofs.Common.{◌≡◌, ◌<◌, length, of_z, w64, arith, refl, sym, ◌∙◌, ap}
use Rattle.std.specs.Map.{keys_of}
use Rattle.std.proofs.lemmas.List.Elements.{All-head, All-tail}
use Rattle.tmem_core.specs.SettleAnswer.{has_changed}
use Rattle.tmem_core.proofs.Present.{stale_here, stale_later}
use Rattle.tmem_core.proofs.core_state.has_changed.Goals as goal

pub loop-var-init : goal.loop-var-init
loop-var-init c = rw (c.into_iter-var-iterator.ensures.into_iter_gives, c.iter-var-items.ensures.rest) (c.requires, refl)

pub value-requires : goal.value-requires
value-requires c =
    let vars = length c.args.state.now.values in
    All-head (λ var. var < vars) c.in-Some.var.now (keys_of c.next.new.self) (rw c.in-Some.ensures.steps at c.loop-var.invariant.0)

pub returns-then-value : goal.returns-then-value
returns-then-value c =
    let here = stale_here c.args.state.now c.in-Some.var.now c.value.result c.in-Some.value.now c.next.new.self c.value.ensures (λ same. c.if-value.true (ap (of_z w64) same)) in
    sym (c.loop-var.invariant.1 ∙ ap (has_changed c.args.state.now) c.in-Some.ensures.steps ∙ here)

pub loop-var-preserved : goal.loop-var-preserved
loop-var-preserved c =
    let vars = length c.args.state.now.values in
    let same : c.value.result ≡ c.in-Some.value.now = grind (arith, c.if-value.false) in
    let later = stale_later c.args.state.now c.in-Some.var.now c.value.result c.in-Some.value.now c.next.new.self c.value.ensures same in (
      All-tail (λ var. var < vars) c.in-Some.var.now (keys_of c.next.new.self) (rw c.in-Some.ensures.steps at c.loop-var.invariant.0),
      c.loop-var.invariant.1 ∙ ap (has_changed c.args.state.now) c.in-Some.ensures.steps ∙ later,
    )
