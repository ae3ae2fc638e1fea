use Rattle.std.proofs.Common.{◌∙◌, ap, ◌+◌, ℕ}
use Rattle.tmem_bench.proofs.Summed.{sum_more, all_more}
use Rattle.tmem_bench.proofs.workers.sum_of.Goals as goal

pub loop-answer-preserved : goal.loop-answer-preserved
loop-answer-preserved c =
    let answers = c.args.answers.now in
    let i = c.loop-answer.answer-index in
    record {
      sum = ap (λ (n : ℕ). n + c.in-Ok.number) c.loop-answer.invariant.sum ∙ sum_more answers i c.in-Ok.number c.answer-item.result c.loop-answer-test.true c.answer-item.is c.in-Ok.is;
      all = all_more answers i c.in-Ok.number c.answer-item.result c.loop-answer-test.true c.answer-item.is c.in-Ok.is c.loop-answer.invariant.all;
    }
