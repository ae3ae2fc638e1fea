use Rattle.tmem_explain.proofs.device.CallCauseDisplay.fmt.Goals as goal
use Rattle.tmem_explain.proofs.device.CallCauseDisplay.fmt.Goals.{in-NoPermission, in-ReadOnly, in-NoRoom, in-LongName, in-Limit, in-Circle, in-DiskError, in-Other}

-- Each text is written as it stands. (They are longer than a search goes through at once.)
pub returns-clause-writes : goal.returns-clause-writes
returns-clause-writes g c = elim c.match-self.branch [
  | in-NoPermission w ↦ rw w.in-NoPermission.is (rw w.write_str-is at c.write_str.ensures.writes)
  | in-ReadOnly w ↦ rw w.in-ReadOnly.is (rw w.write_str-is at c.write_str.ensures.writes)
  | in-NoRoom w ↦ rw w.in-NoRoom.is (rw w.write_str-is at c.write_str.ensures.writes)
  | in-LongName w ↦ rw w.in-LongName.is (rw w.write_str-is at c.write_str.ensures.writes)
  | in-Limit w ↦ rw w.in-Limit.is (rw w.write_str-is at c.write_str.ensures.writes)
  | in-Circle w ↦ rw w.in-Circle.is (rw w.write_str-is at c.write_str.ensures.writes)
  | in-DiskError w ↦ rw w.in-DiskError.is (rw w.write_str-is at c.write_str.ensures.writes)
  | in-Other w ↦ rw w.in-Other.is (rw w.write_str-is at c.write_str.ensures.writes)
]
