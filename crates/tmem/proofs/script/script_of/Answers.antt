use Rattle.std.proofs.Common.{◌≡◌, rules, subst}
use Rattle.std.proofs.lemmas.Result.{IfErr-weaker}
use Rattle.tmem_explain.specs.Limits.{IsNoScript}
use Rattle.tmem.proofs.Commands.{refused_text}
use Rattle.tmem.proofs.script.script_of.Goals as goal

pub returns-clause-refused : goal.returns-clause-refused
returns-clause-refused g c =
    let text = c.in_ok-text.text.items in
    let same : c.deref.result.now ≡ text = search rules in
    IfErr-weaker c.from_slice-script.result _ _ (λ e none. refused_text _ e text c.in_ok-text.ensures.text (λ is. subst IsNoScript same (none is))) c.from_slice-script.ensures.no_script
