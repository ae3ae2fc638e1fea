use Rattle.std.proofs.Common.{◌≡◌, ◌∙◌, sym, arith}
use Rattle.tmem_builtins.proofs.Third.{third}
use Rattle.tmem_builtins.proofs.steps.BuiltinStepsStoredSteps.answer.Goals as goal

pub returns-in_default : goal.returns-in_default
returns-in_default c = λ m is.
    let two : c.args.index ≡ 2 = omega arith in
    c.need.ensures ∙ sym (is c.args.index c.args.args.now c.requires.there ∙ third c.args.index c.args.args.now two)
