use Rattle.std.proofs.Common.{◌≡◌, take}
use Rattle.tmem_effect.specs.State.{fold}
use Rattle.tmem_journal.proofs.committing.commit_all.Given as goal

abbrev pub invariant-loop-effect : goal.invariant-loop-effect
invariant-loop-effect l = l.state ≡ fold l.initial.state (take l.effect-index l.effects)
