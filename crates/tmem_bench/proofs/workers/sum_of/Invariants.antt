use Rattle.std.proofs.Common.{◌≡◌, take}
use Rattle.std.specs.Prelude.{All, IsOk}
use Rattle.tmem_bench.specs.Counting.{committed_together}
use Rattle.tmem_bench.proofs.workers.sum_of.Given as goal

-- so far each answered a number, and these add up to this one
abbrev pub invariant-loop-answer : goal.invariant-loop-answer
invariant-loop-answer l = record {
  sum : l.committed ≡ committed_together (take l.answer-index l.answers);
  all : All (λ answer. IsOk answer) (take l.answer-index l.answers);
}
