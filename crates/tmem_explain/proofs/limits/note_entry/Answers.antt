use Rattle.std.proofs.Common.{◌≡◌, Some, rules, sym, subst}
use Rattle.std.proofs.lemmas.Result.{IfOk-weaker}
use Rattle.tmem_explain.specs.Limits.{BreaksLimit, HasFlaw, TellsLimit, begun_at}
use Rattle.tmem_explain.proofs.Limited.{same_begun}
use Rattle.tmem_explain.proofs.limits.note_entry.Goals as goal

pub returns-in-Some-clause-each : goal.returns-in-Some-clause-each
returns-in-Some-clause-each c =
    let script = c.args.script.now in
    let here : begun_at script.entries.items c.args.index ≡ Some c.in-Some.tx.now = search rules in
    IfOk-weaker c.note_limits.result _ _
    (λ done each tx cause begun breaks.
    let same = same_begun _ c.in-Some.tx.now tx here begun in
    subst (λ t. HasFlaw (TellsLimit script.vars c.args.index t cause) c.note_limits.new.flaws.items) (sym same) (each cause (subst (λ t. BreaksLimit script.vars t cause) same breaks)))
    c.note_limits.ensures.each
