use Rattle.std.proofs.Common.{◌≡◌, ◌<◌, max, drop}
use Rattle.tmem_tree.specs.Limits.{depth, choices}
use Rattle.tmem_tree.proofs.Laws.{depth_items, choices_in}
use Rattle.tmem_tree.proofs.choices.+count_choices.Given as goal

abbrev pub invariant-loop-t : goal.invariant-loop-t
invariant-loop-t l =
    let rest = drop l.t-index l.t-items in
    record {
      deep : depth_items rest < depth l.tx;
      few : l.most < depth l.tx;
      choices : choices l.tx ≡ max l.most (choices_in rest);
    }
