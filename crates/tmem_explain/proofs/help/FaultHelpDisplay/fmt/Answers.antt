use Rattle.tmem_explain.proofs.help.FaultHelpDisplay.fmt.Goals as goal
use Rattle.tmem_explain.proofs.help.FaultHelpDisplay.fmt.Goals.{in-Memory, in-Device, in-Closed, in-Unknown, in-Full, in-LogFull, in-Conflict, in-NotFormatted, in-Damaged, in-BadName, in-BadFootprint, in-Spent, in-NoSeat, in-Geometry}

-- Each text is written as it stands. (They are longer than a search goes through at once.)
pub returns-clause-writes : goal.returns-clause-writes
returns-clause-writes g c = elim c.match-self.branch [
  | in-Memory w ↦ rw w.in-Memory.is (rw w.text-is at c.write_str.ensures.writes)
  | in-Device w ↦ rw w.in-Device.is (rw w.text-is at c.write_str.ensures.writes)
  | in-Closed w ↦ rw w.in-Closed.is (rw w.text-is at c.write_str.ensures.writes)
  | in-Unknown w ↦ rw w.in-Unknown.is (rw w.text-is at c.write_str.ensures.writes)
  | in-Full w ↦ rw w.in-Full.is (rw w.text-is at c.write_str.ensures.writes)
  | in-LogFull w ↦ rw w.in-LogFull.is (rw w.text-is at c.write_str.ensures.writes)
  | in-Conflict w ↦ rw w.in-Conflict.is (rw w.text-is at c.write_str.ensures.writes)
  | in-NotFormatted w ↦ rw w.in-NotFormatted.is (rw w.text-is at c.write_str.ensures.writes)
  | in-Damaged w ↦ rw w.in-Damaged.is (rw w.text-is at c.write_str.ensures.writes)
  | in-BadName w ↦ rw w.in-BadName.is (rw w.text-is at c.write_str.ensures.writes)
  | in-BadFootprint w ↦ rw w.in-BadFootprint.is (rw w.text-is at c.write_str.ensures.writes)
  | in-Spent w ↦ rw w.in-Spent.is (rw w.text-is at c.write_str.ensures.writes)
  | in-NoSeat w ↦ rw w.in-NoSeat.is (rw w.text-is at c.write_str.ensures.writes)
  | in-Geometry w ↦ rw w.in-Geometry.is (rw w.text-is at c.write_str.ensures.writes)
]
