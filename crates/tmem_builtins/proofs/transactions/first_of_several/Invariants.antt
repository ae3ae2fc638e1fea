use Rattle.std.proofs.Common.{◌≡◌, ◌+◌, length, sum_by}
use Rattle.tmem_tree.specs.Limits.{count}
use Rattle.tmem_tree.specs.Run.{View, run}
use Rattle.tmem_tree.specs.Visited.{asks}
use Rattle.tmem_tree.specs.StepAnswers.{StepMeanings}
use Rattle.tmem_invariants.specs.Meanings.{Meanings}
use Rattle.tmem_builtins.specs.Transactions.{run_first, first_asks, is_put}
use Rattle.tmem_builtins.proofs.Choices.{ending_then, asks_then}
use Rattle.tmem_builtins.proofs.transactions.first_of_several.Given as goal

-- what is chosen is one of those that were taken
abbrev pub invariant-loop-tx : goal.invariant-loop-tx
invariant-loop-tx l =
    record {
      runs : (steps : StepMeanings) (tests : Meanings) (view : View) → ending_then steps tests l.alternatives.items (run steps tests l.chosen view) view ≡ run_first steps tests l.fn.alternatives.items view;
      reads : (steps : StepMeanings) (tests : Meanings) (view : View) → asks_then steps tests l.alternatives.items (asks steps tests l.chosen view) view ≡ first_asks steps tests l.fn.alternatives.items view;
      numbers : sum_by (count is_put) l.alternatives.items + count is_put l.chosen ≡ sum_by (count is_put) l.fn.alternatives.items;
    }

abbrev pub decreases-loop-tx : goal.decreases-loop-tx
decreases-loop-tx l = length l.alternatives.items
