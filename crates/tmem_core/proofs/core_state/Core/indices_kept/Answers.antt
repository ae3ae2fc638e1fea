use Rattle.std.proofs.Common.{◌≡◌, ℕ, List, [], length, sym, subst, ◌∙◌, arith}
use Rattle.std.proofs.lemmas.Bool.{eqb-true}
use Rattle.std.proofs.lemmas.List.{nil_from_length}
use Rattle.tmem_effect.specs.Names.{without_names}
use Rattle.tmem_effect.proofs.Laws.{has_name-without_names}
use Rattle.tmem_invariants.specs.Indices.{AreIndicesOf}
use Rattle.tmem_invariants.proofs.Laws.{AreIndicesOf-without}
use Rattle.tmem_core.proofs.core_state.Core.indices_kept.Goals as goal

pub returns-then-is_empty : goal.returns-then-is_empty
returns-then-is_empty g c =
    let core = c.args.self.now in
    let none : c.args.effect.now.retired ≡ [] = sym c.as_slice-retired.ensures.names ∙ nil_from_length c.as_slice-retired.result.now (eqb-true (length c.as_slice-retired.result.now) 0 (sym c.is_empty.ensures ∙ c.if-is_empty.true)) in
    subst (λ (ns : List (List ℕ)). AreIndicesOf (without_names core.state.names ns) (g.T.Invariants.names core.table) core.indices) (sym none) core.indexed

pub returns : goal.returns
returns g c =
    let core = c.args.self.now in
    let gone = c.args.effect.now.retired in
    AreIndicesOf-without core.state.names gone (without_names core.state.names gone) (g.T.Invariants.names core.table) core.indices c.indices_of.result (omega arith) c.indices_of.type_inv
    (λ name. has_name-without_names core.state.names gone name) core.indexed (rw c.as_slice-retired.ensures.names at c.indices_of.ensures)
