use Rattle.std.proofs.Common.{◌≡◌, ◌+◌, ◌++◌, take, drop}
use Rattle.tmem_tree.specs.Limits.{is_put}
use Rattle.tmem_tree.proofs.Laws.{count_items}
use Rattle.tmem_tree.proofs.Among.{with_number_among}
use Rattle.tmem_tree.proofs.numbers.+change_number.Given as goal

abbrev pub invariant-loop-t : goal.invariant-loop-t
invariant-loop-t l =
    let rest = drop l.t-index l.t-items in
    record {
      unvisited : goal.unvisited-loop-t l;
      changed : with_number_among l.index l.fn.number l.initial.t-items ≡ take l.t-index l.t-items ++ with_number_among l.left l.fn.number rest;
      left : l.left + count_items is_put l.initial.t-items ≡ l.index + count_items is_put rest;
    }
