use Rattle.std.proofs.Common.{⊎_elim, sym, ◌∙◌}
use Rattle.tmem_tree.proofs.Found.{is_some-shown, is_some-signature_in, turned}
use Rattle.tmem_tree.proofs.limits.has_unknown_name.Goals as goal

pub returns-in-Check : goal.returns-in-Check
returns-in-Check c =
    let is = turned _ _ (sym (is_some-signature_in c.args.signatures.now c.in-Check.name) ∙ sym (is_some-shown _ c.find.result _ c.find.ensures) ∙ c.is_none.ensures) in
    ⊎_elim (λ e. rw e is) (λ e. rw e is) c.in-Check.is
