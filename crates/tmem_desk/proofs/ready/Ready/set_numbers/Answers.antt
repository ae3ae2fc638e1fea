use Rattle.std.proofs.Common.{length, List, sym, subst}
use Rattle.tmem_tree.specs.Signatures.{AreMeant}
use Rattle.tmem_tree.specs.declared.signature.Signature.{Signature}
use Rattle.tmem_desk.proofs.ready.Ready.set_numbers.Goals as goal

pub invariant_of-self : goal.invariant_of-self
invariant_of-self g c = record {
  steps = c.set_numbers.ensures.steps g.N.ServedNaming.arities c.args.self.now.steps;
  variables = c.set_numbers.ensures.variables (length g.N.StoreNaming.opening.values) c.args.self.now.variables;
  names = c.set_numbers.ensures.names g.N.ProgramNaming.program.names c.args.self.now.names;
  signatures = subst (λ (l : List Signature). AreMeant g.N.ProgramNaming.program.tests l) (sym c.set_numbers.ensures.signatures) c.args.self.now.signatures;
}
