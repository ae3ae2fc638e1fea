use Rattle.std.proofs.Common.{inl, inr}
use Rattle.std.proofs.lemmas.Result.{IfOk-weaker}
use Rattle.tmem_explain.proofs.Amisses.{all_ok}
use Rattle.tmem_explain.proofs.script.flaws_in.Goals as goal

pub returns-in-Ok-clause-limits : goal.returns-in-Ok-clause-limits
returns-in-Ok-clause-limits c =
    let script = c.in-Ok.script in
    IfOk-weaker c.flaws_of_script.result _ _ (λ flaws tells. inr (script.vars, script.slots, script.entries.items, c.in-Ok.ensures.script, tells)) c.flaws_of_script.ensures.limits

pub returns-in-Ok-clause-some : goal.returns-in-Ok-clause-some
returns-in-Ok-clause-some c =
    let script = c.in-Ok.script in
    IfOk-weaker c.flaws_of_script.result _ _
    (λ flaws some told. inr (script.vars, script.slots, script.entries.items, c.in-Ok.ensures.script, λ keeps. told (some keeps)))
    c.flaws_of_script.ensures.some

pub returns-clause-limits : goal.returns-clause-limits
returns-clause-limits c =
    all_ok _ c.flaws_of_text.result (λ flaws. inl (λ vars slots entries is. c.in-Err.ensures.no_script c.in-NoScript.is vars slots entries is))

pub returns-clause-some : goal.returns-clause-some
returns-clause-some c =
    all_ok _ c.flaws_of_text.result (λ flaws some. inl (λ vars slots entries is. c.in-Err.ensures.no_script c.in-NoScript.is vars slots entries is))
