use Rattle.std.proofs.Common.{◌≡◌, Bool, List, drop, length}
use Rattle.tmem_tentative.specs.Eval.{footprint_seen}
use Rattle.tmem_tentative.specs.Logs.{run_state_of}
use Rattle.tmem_tentative.proofs.EvalSights.{ahead}
use Rattle.tmem_tentative.proofs.walk.see_all.Given as goal

abbrev pub invariant-loop-var : goal.invariant-loop-var
invariant-loop-var l =
    (l.log.effect ≡ l.initial.log.effect)
    × (length l.into ≡ l.var-index)
    × ((left : List Bool) → footprint_seen l.reads.entries l.vars (run_state_of l.initial.log left) ≡ ahead l.into (footprint_seen l.reads.entries (drop l.var-index l.vars) (run_state_of l.log left)))
