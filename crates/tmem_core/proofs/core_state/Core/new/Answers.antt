use Rattle.std.proofs.Common.{◌≡◌, ◌≤◌, None, Some, length, sym, subst, ◌∙◌, arith}
use Rattle.tmem_effect.specs.State.{State, IsWithin}
use Rattle.tmem_invariants.specs.Meanings.{AllHold}
use Rattle.tmem_invariants.specs.Indices.{AreIndicesOf}
use Rattle.tmem_core.proofs.Folded.{folded-none}
use Rattle.tmem_core.proofs.Known.{AreAmong}
use Rattle.tmem_core.proofs.Opens.{opens, sound-opens}
use Rattle.tmem_core.proofs.core_state.Core.new.Goals as goal

pub returns-in-Some-clause-unsound : goal.returns-in-Some-clause-unsound
returns-in-Some-clause-unsound g c = λ m stated apart sound.
    let clash : None ≡ Some c.in-Some.fault = sym (sound-opens (g.T.Invariants.names c.args.table) m c.args.state.now sound) ∙ sym (c.fault_against.ensures.which m stated) ∙ c.in-Some.is in
    cc

pub returns-in-Err-clause-memory : goal.returns-in-Err-clause-memory
returns-in-Err-clause-memory g c = λ m stated wanted. opens (g.T.Invariants.names c.args.table) m c.args.state.now (sym (c.fault_against.ensures.which m stated) ∙ c.in_default.is)

pub invariant_of-result-clause-sound : goal.invariant_of-result-clause-sound
invariant_of-result-clause-sound g c = λ m stated.
    subst (λ (x : State). AllHold m x.names x.values) (sym c.in-Ok.ensures.state) (opens (g.T.Invariants.names c.args.table) m c.args.state.now (sym (c.fault_against.ensures.which m stated) ∙ c.in_default.is)).hold

pub invariant_of-result-clause-indexed : goal.invariant_of-result-clause-indexed
invariant_of-result-clause-indexed g c =
    subst (λ (x : State). AreIndicesOf x.names (g.T.Invariants.names c.args.table) c.indices_of-indices.result) (sym c.in-Ok.ensures.state) (rw c.names.ensures.names at c.indices_of-indices.ensures)

pub invariant_of-result-clause-known : goal.invariant_of-result-clause-known
invariant_of-result-clause-known g c =
    subst (λ (x : State). AreAmong (g.T.Invariants.names c.args.table) x.names) (sym c.in-Ok.ensures.state) (rw c.in_default.is at c.fault_against.ensures.known)

pub invariant_of-result-clause-folded : goal.invariant_of-result-clause-folded
invariant_of-result-clause-folded g c =
    let s = c.in-Ok.state in
    let within : IsWithin s = record { count = omega (arith, c.count-durable.ensures); names = subst (λ (x : State). length x.names ≤ 64) (sym c.in-Ok.ensures.state) c.names.ensures.are_registered.few } in
    rw (c.count-durable.ensures, c.in-Ok.ensures.waiting, c.of-opened.ensures) (folded-none s within)
