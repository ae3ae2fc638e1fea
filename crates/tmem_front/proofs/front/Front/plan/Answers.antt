use Rattle.std.proofs.Common.{◌≡◌, ℕ, List, IfOk, IfErr, ap, sym, ◌∙◌, subst}
use Rattle.tmem_fault.specs.declared.fault.Cause.{Cause}
use Rattle.tmem_fault.specs.declared.fault.Fault.TheVariants.{BadPlan}
use Rattle.tmem_tree.specs.Plans.{BreaksNone, IsLeastBroken}
use Rattle.tmem_tree.specs.Signatures.{AreMeant, names_of}
use Rattle.tmem_front.proofs.Planned.{for_names, for_steps}
use Rattle.tmem_front.proofs.front.Front.plan.Goals as goal

pub returns-clause-steps : goal.returns-clause-steps
returns-clause-steps g c = for_steps c.new.result c.args.tx (g.S.StoredSteps.arities c.args.self.now.steps) c.new.ensures.plan c.new.ensures.steps

pub returns-clause-names : goal.returns-clause-names
returns-clause-names g c =
    let front = c.args.self.now in
    for_names c.new.result c.args.tx (names_of c.deref.result.now) g.N.ProgramNaming.program.names c.new.ensures.plan c.new.ensures.names (ap names_of c.deref.ensures.value ∙ front.named)

pub returns-clause-fine : goal.returns-clause-fine
returns-clause-fine g c =
    let front = c.args.self.now in
    subst (λ (names : List (List ℕ)). IfOk c.new.result (λ _. BreaksNone (g.S.StoredSteps.arities front.steps) front.vars names c.args.tx)) (ap names_of c.deref.ensures.value ∙ front.named) c.new.ensures.fine

pub returns-clause-least : goal.returns-clause-least
returns-clause-least g c =
    let front = c.args.self.now in
    subst (λ (names : List (List ℕ)). IfErr c.new.result (λ fault. (cause : Cause) × (fault ≡ BadPlan cause) × IsLeastBroken (g.S.StoredSteps.arities front.steps) front.vars names c.args.tx cause)) (ap names_of c.deref.ensures.value ∙ front.named) c.new.ensures.least

pub returns-clause-signatures : goal.returns-clause-signatures
returns-clause-signatures g c =
    let tests = g.N.ProgramNaming.program.tests in
    c.new.ensures.signatures tests (subst (λ signatures. AreMeant tests signatures) (sym c.deref.ensures.value) c.args.self.now.meant)
