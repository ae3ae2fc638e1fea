use Rattle.std.proofs.Common.{List, All, IfErr, sym, subst}
use Rattle.std.proofs.lemmas.List.Elements.{All-push}
use Rattle.tmem_explain.specs.Flaws.{IsAmissIn, IsFlawOf}
use Rattle.tmem_explain.specs.declared.flaw.Flaw.{Flaw}
use Rattle.tmem_explain.proofs.script.note.Goals as goal
use Rattle.tmem_explain.proofs.script.note.Goals.{in-Ok, in-Err-push}

pub returns-in_default : goal.returns-in_default
returns-in_default c = λ d found all. all

pub returns : goal.returns
returns c = λ d found all.
    let flaw = c.into_flaw.ensures.flaw d (subst (λ r. IfErr r (IsAmissIn d)) c.in-Err.is found) in
    elim c.match-push.branch [
      | in-Ok w ↦ rw w.result-is (subst (All (IsFlawOf d)) (sym {A = List Flaw} w.in-Ok.ensures.items) (All-push (IsFlawOf d) c.args.flaws.now.items c.into_flaw.result all flaw))
      | in-Err-push w ↦ rw w.result-is tt
    ]
