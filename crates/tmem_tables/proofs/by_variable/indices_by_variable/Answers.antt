use Rattle.std.proofs.lemmas.Grind.{common_steps}
use Rattle.std.proofs.Common.{arith, ◌≡◌, length, replicate, ap, ◌∙◌, rules}
use Rattle.std.proofs.lemmas.List.{length-replicate}
use Rattle.tmem_tables.proofs.Touching.{touching-none}
use Rattle.tmem_tables.proofs.by_variable.indices_by_variable.Goals as goal

pub loop-index-init : goal.loop-index-init
loop-index-init g c =
    let empty : c.in_ok-by_variable.by_variable.items ≡ replicate c.args.vars 0 = search rules in
    record {
      long = ap length empty ∙ length-replicate c.args.vars 0;
      touching = λ var index. rw empty (touching-none c.args.vars var index);
    }

pub loop-index-preserved : goal.loop-index-preserved
loop-index-preserved g c = grind (arith, common_steps)

pub returns-clause-touching : goal.returns-clause-touching
returns-clause-touching g c = grind (arith, common_steps)
