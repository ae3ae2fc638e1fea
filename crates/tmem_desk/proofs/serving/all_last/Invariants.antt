use Rattle.std.proofs.Common.{◌≡◌, ◌++◌, map}
use Rattle.tmem_desk.specs.Told.{told_last}
use Rattle.tmem_desk.proofs.serving.all_last.Given as goal

-- those so far
abbrev pub invariant-loop-one : goal.invariant-loop-one
invariant-loop-one l = record {
  parts : l.yielded ++ l.one-iterator.rest.items ≡ l.fn.told.items;
  all : l.all.items ≡ map (told_last l.durable l.fault) l.yielded;
}
