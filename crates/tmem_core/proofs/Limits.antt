-- The limits of counts and names, after what is committed.
use Rattle.std.proofs.Common.{List, ◌++◌, Result, Ok, Err, sym, subst, append-nil}
use Rattle.tmem_fault.specs.declared.fault.Fault.{Fault}
use Rattle.tmem_effect.specs.State.{State, fold, IsWithin, StaysWithin}
use Rattle.tmem_effect.specs.declared.effect.Effect.{Effect}
use Rattle.tmem_effect.proofs.Laws.{fold-push, StaysWithin-push}
use Rattle.tmem_tree.specs.declared.settled.Settled.{Settled}
use Rattle.tmem_tree.specs.declared.settled.Settled.TheVariants.{Committed}
use Rattle.tmem_core.specs.SettleAnswer.{committed_by}

-- Where the limits held after each effect that waits, and hold after what an answer commits, they hold after each of all these.
pub StaysWithin-taken : (s : State) (waiting : List Effect) (e : Effect) (answer : Result Settled Fault) → StaysWithin s waiting → IsWithin (fold s (waiting ++ committed_by answer e)) → StaysWithin s (waiting ++ committed_by answer e)
StaysWithin-taken s waiting e (Ok (Committed number registers)) stays within = StaysWithin-push s waiting e stays (subst IsWithin (fold-push s waiting e) within)
StaysWithin-taken s waiting e (Ok _) stays within = subst (StaysWithin s) (sym (append-nil waiting)) stays
StaysWithin-taken s waiting e (Err f) stays within = subst (StaysWithin s) (sym (append-nil waiting)) stays
