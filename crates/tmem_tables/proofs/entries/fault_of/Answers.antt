use Rattle.std.proofs.Common.{arith}
use Rattle.std.proofs.lemmas.Grind.{common_steps}
use Rattle.tmem_tables.proofs.entries.fault_of.Goals as goal

pub returns-then-entries-gt-MAX_INVARIANTS : goal.returns-then-entries-gt-MAX_INVARIANTS
returns-then-entries-gt-MAX_INVARIANTS g c = grind (arith, common_steps)

pub returns-then-not-are_within : goal.returns-then-not-are_within
returns-then-not-are_within g c = grind (arith, common_steps)

pub returns : goal.returns
returns g c = grind (arith, common_steps)
