use Rattle.std.proofs.Common.{All}
use Rattle.serde_json.specs.View.{view}
use Rattle.tmem_explain.specs.Flaws.{IsFlawOf}
use Rattle.tmem_explain.proofs.script.note_entries.Given as goal

abbrev pub invariant-loop-i : goal.invariant-loop-i
invariant-loop-i l = All (IsFlawOf (view l.whole)) l.fn.flaws.items → All (IsFlawOf (view l.whole)) l.flaws.items
