use Rattle.tmem_explain.proofs.device.DeviceCauseDisplay.fmt.Goals as goal
use Rattle.tmem_explain.proofs.device.DeviceCauseDisplay.fmt.Goals.{in-Empty, in-Locked, in-Folder, in-NoFile, in-Missing, in-DeadLink, in-There, in-NameInDoubt, in-MissingFolder, in-NoFolder, in-Slash, in-ClosedFolder, in-NoLinks, in-NoBytes, in-SecondName}

-- Each text is written as it stands. (There are more of them than a search goes through at once.)
pub returns-clause-writes : goal.returns-clause-writes
returns-clause-writes g c = elim c.match-self.branch [
  | in-Empty w ↦ rw w.in-Empty.is (rw w.text-is at c.write_str.ensures.writes)
  | in-Locked w ↦ rw w.in-Locked.is (rw w.text-is at c.write_str.ensures.writes)
  | in-Folder w ↦ rw w.in-Folder.is (rw w.text-is at c.write_str.ensures.writes)
  | in-NoFile w ↦ rw w.in-NoFile.is (rw w.text-is at c.write_str.ensures.writes)
  | in-Missing w ↦ rw w.in-Missing.is (rw w.text-is at c.write_str.ensures.writes)
  | in-DeadLink w ↦ rw w.in-DeadLink.is (rw w.text-is at c.write_str.ensures.writes)
  | in-There w ↦ rw w.in-There.is (rw w.text-is at c.write_str.ensures.writes)
  | in-NameInDoubt w ↦ rw w.in-NameInDoubt.is (rw w.text-is at c.write_str.ensures.writes)
  | in-MissingFolder w ↦ rw w.in-MissingFolder.is (rw w.text-is at c.write_str.ensures.writes)
  | in-NoFolder w ↦ rw w.in-NoFolder.is (rw w.text-is at c.write_str.ensures.writes)
  | in-Slash w ↦ rw w.in-Slash.is (rw w.text-is at c.write_str.ensures.writes)
  | in-ClosedFolder w ↦ rw w.in-ClosedFolder.is (rw w.text-is at c.write_str.ensures.writes)
  | in-NoLinks w ↦ rw w.in-NoLinks.is (rw w.text-is at c.write_str.ensures.writes)
  | in-NoBytes w ↦ rw w.in-NoBytes.is (rw w.text-is at c.write_str.ensures.writes)
  | in-SecondName w ↦ rw w.in-SecondName.is (rw w.text-is at c.write_str.ensures.writes)
]
