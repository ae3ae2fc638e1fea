use Rattle.std.proofs.Common.{◌≡◌, ◌++◌, take}
use Rattle.tmem_desk.specs.Told.{told_lines}
use Rattle.tmem_desk.proofs.told.spell_all.Given as goal

-- the lines so far stand behind the text
abbrev pub invariant-loop-one : goal.invariant-loop-one
invariant-loop-one l = l.text.items ≡ l.fn.text.items ++ told_lines (take l.one-index l.told)
