use Rattle.std.proofs.Common.{All, map}
use Rattle.tmem_invariants.specs.Answers.{IsMeant}
use Rattle.tmem_invariants.specs.Meanings.{Meanings, holds}
use Rattle.tmem_tables.proofs.Tested.{AreTested}
use Rattle.tmem_tables.proofs.entries.test_indices.Given as goal

abbrev pub invariant-loop-left : goal.invariant-loop-left
invariant-loop-left g l =
    (m : Meanings) → All (λ entry. IsMeant m (g.E.TableEntry.name entry) (g.E.TableEntry.footprint entry) (g.E.TableEntry.answers entry)) l.entries → AreTested (holds m l.values) (map g.E.TableEntry.name l.entries) l.indices l.left

abbrev pub decreases-loop-left : goal.decreases-loop-left
decreases-loop-left g l = l.left
