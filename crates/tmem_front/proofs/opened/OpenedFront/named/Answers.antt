use Rattle.std.proofs.lemmas.Grind.{common_steps}
use Rattle.std.proofs.Common.{arith, ◌≡◌, ℕ, length, ap, sym, subst, ◌∙◌, rules}
use Rattle.tmem_effect.specs.State.{State}
use Rattle.tmem_tree.specs.Signatures.{AreWithin}
use Rattle.tmem_core.specs.Held.{core_state}
use Rattle.tmem_front.proofs.opened.OpenedFront.named.Goals as goal

pub invariant_of-result-clause-named : goal.invariant_of-result-clause-named
invariant_of-result-clause-named g c = c.args.self.opening.named ∙ c.requires.names

pub invariant_of-result-clause-meant : goal.invariant_of-result-clause-meant
invariant_of-result-clause-meant g c = c.args.self.opening.meant g.N.ProgramNaming.program.tests c.requires.stated

pub invariant_of-result-clause-within : goal.invariant_of-result-clause-within
invariant_of-result-clause-within g c =
    let over : c.layout-vars.result.vars ≡ length g.N.StoreNaming.opening.values = search rules in
    let found : length (core_state c.args.self.opening.core).values ≡ length g.N.StoreNaming.opening.values = ap (λ (s : State). length s.values) c.requires.opening in
    subst (λ (n : ℕ). AreWithin n c.args.self.opening.signatures.items) (found ∙ sym over) c.args.self.opening.within

pub invariant_of-result-clause-stated : goal.invariant_of-result-clause-stated
invariant_of-result-clause-stated g c = grind (arith, common_steps)
