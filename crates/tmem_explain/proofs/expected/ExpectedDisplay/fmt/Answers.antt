use Rattle.tmem_explain.proofs.expected.ExpectedDisplay.fmt.Goals as goal
use Rattle.tmem_explain.proofs.expected.ExpectedDisplay.fmt.Goals.{in-Json, in-MoreJson, in-Object, in-ScriptKeys, in-ScriptKey, in-Vars, in-Slots, in-Number, in-Entries, in-Entry, in-Begin, in-Attempt, in-Script}

-- Each text is written as it stands. (There are more of them than a search goes through at once.)
pub returns-clause-writes : goal.returns-clause-writes
returns-clause-writes g c = elim c.match-self.branch [
  | in-Json w ↦ rw w.in-Json.is (rw w.text-is at c.write_str.ensures.writes)
  | in-MoreJson w ↦ rw w.in-MoreJson.is (rw w.text-is at c.write_str.ensures.writes)
  | in-Object w ↦ rw w.in-Object.is (rw w.text-is at c.write_str.ensures.writes)
  | in-ScriptKeys w ↦ rw w.in-ScriptKeys.is (rw w.text-is at c.write_str.ensures.writes)
  | in-ScriptKey w ↦ rw w.in-ScriptKey.is (rw w.text-is at c.write_str.ensures.writes)
  | in-Vars w ↦ rw w.in-Vars.is (rw w.text-is at c.write_str.ensures.writes)
  | in-Slots w ↦ rw w.in-Slots.is (rw w.text-is at c.write_str.ensures.writes)
  | in-Number w ↦ rw w.in-Number.is (rw w.text-is at c.write_str.ensures.writes)
  | in-Entries w ↦ rw w.in-Entries.is (rw w.text-is at c.write_str.ensures.writes)
  | in-Entry w ↦ rw w.in-Entry.is (rw w.text-is at c.write_str.ensures.writes)
  | in-Begin w ↦ rw w.in-Begin.is (rw w.text-is at c.write_str.ensures.writes)
  | in-Attempt w ↦ rw w.in-Attempt.is (rw w.text-is at c.write_str.ensures.writes)
  | in-Script w ↦ rw w.in-Script.is (rw w.text-is at c.write_str.ensures.writes)
]
