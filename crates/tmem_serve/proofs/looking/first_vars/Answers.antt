use Rattle.std.proofs.Common.{◌≡◌, ℕ, suc, ◌+◌, List, ◌++◌, ◌∷◌, [], ◌∙◌, ap, arith}
use Rattle.tmem_desk.specs.Held.{first_numbers}
use Rattle.tmem_serve.proofs.looking.first_vars.Goals as goal

pub loop-var-preserved : goal.loop-var-preserved
loop-var-preserved c =
    let one : suc c.loop-var.var ≡ c.loop-var.var + 1 = omega arith in
    c.in_ok-push.ensures.items ∙ (ap (λ (l : List ℕ). l ++ c.loop-var.var ∷ []) c.loop-var.invariant ∙ ap first_numbers one)
