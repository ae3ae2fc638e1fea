use Rattle.std.proofs.Common.{ap, arith}
use Rattle.tmem_tree.specs.Limits.{Checks, one_if}
use Rattle.tmem_tree.proofs.Checked.{All-names}
use Rattle.tmem_tree.proofs.Known.{covered_without}
use Rattle.tmem_tree.proofs.signatures.fill.Goals as goal

pub returns-then-checks-gt0-clause-checked : goal.returns-then-checks-gt0-clause-checked
returns-then-checks-gt0-clause-checked c =
    All-names (Checks c.args.tx.now) _ (λ name there. let some = ap one_if there in let more = rw c.requires.empty at (c.collect.ensures.checked name) in omega (arith, some, more))

pub returns-else-checks-gt0-clause-known : goal.returns-else-checks-gt0-clause-known
returns-else-checks-gt0-clause-known c = covered_without _ c.args.tx.now (omega (arith, c.requires.checks, c.if-checks-gt0.false))
