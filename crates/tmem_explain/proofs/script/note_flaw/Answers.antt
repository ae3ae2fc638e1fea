use Rattle.std.proofs.Common.{All, sym, subst}
use Rattle.tmem_explain.specs.Flaws.{IsFlawOf}
use Rattle.tmem_explain.proofs.Limited.{all_and_one}
use Rattle.tmem_explain.proofs.script.note_flaw.Goals as goal

pub returns : goal.returns
returns c = λ d is all.
    subst (λ flaws. All (IsFlawOf d) flaws) (sym c.in_ok-push.ensures.items) (all_and_one (IsFlawOf d) c.args.flaws.now.items c.args.flaw all is)
