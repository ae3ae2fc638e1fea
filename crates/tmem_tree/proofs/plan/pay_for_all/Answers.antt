use Rattle.std.proofs.Common.{◌≡◌, ℕ, ◌+◌, ◌≤◌, List, Option, Some, None, refl, arith}
use Rattle.std.specs.Prelude.{◌↔◌, IsSome, IfSome, IsNone}
use Rattle.tmem_tree.specs.declared.tx.Tx.{Tx}
use Rattle.tmem_tree.specs.declared.budget.Budget.{Budget}
use Rattle.tmem_tree.specs.Limits.{depth, count, is_node, is_write, is_check, is_retire, is_step}
use Rattle.tmem_tree.specs.Signatures.{names_of}
use Rattle.tmem_tree.specs.Plans.{BreaksNone, is_bad}
use Rattle.tmem_tree.proofs.Plans.{breaks_none, are_within, steps_are_nodes}
use Rattle.tmem_tree.proofs.plan.pay_for_all.Goals as goal

told : (arities : List ℕ) (vars : ℕ) (names : List (List ℕ)) (tx : Tx) (left : Option Budget) → IfSome left (λ l. depth tx ≤ 32) → IfSome left (λ l. l.nodes + count is_node tx ≡ 512) → IfSome left (λ l. l.writes + count is_write tx ≡ 64) → IfSome left (λ l. l.checks + count is_check tx ≡ 8) → IfSome left (λ l. l.retires + count is_retire tx ≡ 8) → IfSome left (λ l. count (is_bad arities vars names) tx ≡ 0)
    → (IsNone left → depth tx ≤ 32 → count is_node tx ≤ 512 → count is_write tx ≤ 64 → count is_check tx ≤ 8 → count is_retire tx ≤ 8 → count is_step tx ≤ 512 → count (is_bad arities vars names) tx ≡ 0 → ⊥) → IsSome left ↔ BreaksNone arities vars names tx
told arities vars names tx (Some l) shallow nodes writes checks retires good lacking = (
  λ some. breaks_none arities vars names tx (record {
    shallow = shallow;
    nodes = omega (arith, nodes);
    writes = omega (arith, writes);
    checks = omega (arith, checks);
    retires = omega (arith, retires);
    good = good;
  }),
  λ none. refl,
)
told arities vars names tx None shallow nodes writes checks retires good lacking = (
  λ some. absurd (cc),
  λ none. let w = are_within arities vars names tx none in absurd (lacking refl w.shallow w.nodes w.writes w.checks w.retires (omega (arith, w.nodes, steps_are_nodes tx)) w.good),
)

pub returns-clause-fine : goal.returns-clause-fine
returns-clause-fine g c =
    let e = c.pay.ensures in
    told (g.S.StoredSteps.arities c.args.steps.now) c.args.vars (names_of c.args.signatures.now) c.args.tx.now c.pay.result e.shallow e.nodes e.writes e.checks e.retires e.good e.lacking
