use Rattle.std.proofs.Common.{◌≡◌, ◌<◌, ℕ, All, Some}
use Rattle.tmem_fault.specs.declared.fault.Cause.{Cause}
use Rattle.tmem_tree.specs.declared.tx.Tx.{Tx}
use Rattle.tmem_explain.specs.Limits.{BreaksLimit, HasFlaw, IsLimitFlaw, KeepsFlaws, TellsLimit, begun_at}
use Rattle.tmem_explain.proofs.limits.note_plans.Given as goal

abbrev pub invariant-loop-i : goal.invariant-loop-i
invariant-loop-i l = record {
  only : All (IsLimitFlaw l.script.vars l.script.slots l.script.entries.items) l.fn.flaws.items → All (IsLimitFlaw l.script.vars l.script.slots l.script.entries.items) l.flaws.items;
  kept : KeepsFlaws l.fn.flaws.items l.flaws.items;
  each : (i : ℕ) (tx : Tx) (cause : Cause) → i < l.i → begun_at l.script.entries.items i ≡ Some tx → BreaksLimit l.script.vars tx cause → HasFlaw (TellsLimit l.script.vars i tx cause) l.flaws.items;
}
