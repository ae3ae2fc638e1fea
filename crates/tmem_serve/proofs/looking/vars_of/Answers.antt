use Rattle.std.proofs.lemmas.Grind.{common_steps}
use Rattle.std.proofs.Common.{ℕ, ℤ, List, ◌++◌, ◌∷◌, [], ◌∙◌, ap, sym, pos, get_or, arith}
use Rattle.std.proofs.lemmas.List.{map_more}
use Rattle.tmem_serve.proofs.looking.vars_of.Goals as goal

pub loop-read-preserved : goal.loop-read-preserved
loop-read-preserved c =
    let var : ℕ = (get_or c.args.reads.now c.loop-read.read-index (0, pos 0)).0 in
    c.in_ok-push.ensures.items ∙ (ap (λ (l : List ℕ). l ++ var ∷ []) c.loop-read.invariant ∙ sym (map_more (λ (r : ℕ × ℤ). r.0) c.args.reads.now c.loop-read.read-index (0, pos 0) (omega arith)))

pub returns : goal.returns
returns c = grind (arith, common_steps)
