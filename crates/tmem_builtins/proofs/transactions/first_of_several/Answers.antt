use Rattle.tmem_tree.specs.Limits.{count}
use Rattle.tmem_builtins.specs.Transactions.{is_put}
use Rattle.tmem_builtins.proofs.Choices.{begun, begun_asks, begun_sum, turn, turn_asks, turn_sum}
use Rattle.tmem_builtins.proofs.transactions.first_of_several.Goals as goal

pub loop-tx-init : goal.loop-tx-init
loop-tx-init c = record {
  runs = λ steps tests view. begun steps tests _ _ _ view c.in-Some.ensures.items;
  reads = λ steps tests view. begun_asks steps tests _ _ _ view c.in-Some.ensures.items;
  numbers = begun_sum (count is_put) _ _ _ c.in-Some.ensures.items;
}

pub loop-tx-preserved : goal.loop-tx-preserved
loop-tx-preserved c = record {
  runs = λ steps tests view. turn steps tests _ _ c.in-Some-pop.tx c.loop-tx.chosen c.in_ok-chosen.chosen view _ c.in-Some-pop.ensures.items (c.in_ok-chosen.ensures.runs steps tests view) (c.loop-tx.invariant.runs steps tests view);
  reads = λ steps tests view. turn_asks steps tests _ _ c.in-Some-pop.tx c.loop-tx.chosen c.in_ok-chosen.chosen view _ c.in-Some-pop.ensures.items (c.in_ok-chosen.ensures.reads steps tests view) (c.loop-tx.invariant.reads steps tests view);
  numbers = turn_sum (count is_put) _ _ c.in-Some-pop.tx _ _ _ c.in-Some-pop.ensures.items c.in_ok-chosen.ensures.numbers c.loop-tx.invariant.numbers;
}
