use Rattle.std.proofs.Common.{All, sym, subst, arith}
use Rattle.std.proofs.lemmas.List.Elements.{All-push}
use Rattle.serde_json.specs.View.{view}
use Rattle.tmem_explain.specs.Flaws.{IsFlawOf}
use Rattle.tmem_explain.proofs.script.flaws_of_value.Goals as goal
use Rattle.tmem_explain.proofs.script.flaws_of_value.Goals.{then-is_empty+in_ok-push, else-is_empty}

pub returns-clause-told : goal.returns-clause-told
returns-clause-told c =
    let d = view c.args.value.now in
    let told = c.in_ok-note_all.ensures (subst (All (IsFlawOf d)) (sym c.new-flaws.ensures.items) (λ k x within. absurd (omega (arith, within)))) in
    elim c.if-is_empty.branch [
      | then-is_empty+in_ok-push w ↦ rw (w.flaws-is, w.in_ok-push.ensures.items) (All-push (IsFlawOf d) c.note_all.new.flaws.items w.into_flaw.result told (w.into_flaw.ensures.flaw d (w.here.ensures.amiss d tt)))
      | else-is_empty w ↦ rw w.flaws-is told
    ]
