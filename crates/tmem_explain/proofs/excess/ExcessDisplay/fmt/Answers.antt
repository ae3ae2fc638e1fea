use Rattle.std.proofs.lemmas.List.{append-nil}
use Rattle.tmem_explain.proofs.excess.ExcessDisplay.fmt.Goals as goal
use Rattle.tmem_explain.proofs.excess.ExcessDisplay.fmt.Goals.{in-Depth, in-Nodes, in-Writes, in-Checks, in-Retires, in-Register, in-Step, in-Arguments, in-Name}

-- Each text is written with its number, as it stands.
pub returns-clause-writes : goal.returns-clause-writes
returns-clause-writes g c = elim c.match-self.branch [
  | in-Depth w ↦ rw w.in-Depth.is (rw w.n-is at c.write-2.ensures.writes)
  | in-Nodes w ↦ rw w.in-Nodes.is (rw w.n-is at c.write-2.ensures.writes)
  | in-Writes w ↦ rw w.in-Writes.is (rw w.n-is at c.write-2.ensures.writes)
  | in-Checks w ↦ rw w.in-Checks.is (rw w.n-is at c.write-2.ensures.writes)
  | in-Retires w ↦ rw w.in-Retires.is (rw w.n-is at c.write-2.ensures.writes)
  | in-Register w ↦ rw w.in-Register.is (rw w.n-is at c.write-2.ensures.writes)
  | in-Step w ↦ rw w.in-Step.is (rw w.n-is at c.write-2.ensures.writes)
  | in-Arguments w ↦ rw w.in-Arguments.is (simp append-nil at (rw w.n-is at c.write-2.ensures.writes))
  | in-Name w ↦ rw w.in-Name.is (rw w.n-is at c.write-2.ensures.writes)
]
