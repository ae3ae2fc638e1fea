use Rattle.std.proofs.Common.{ℤ, List, [], ◌∷◌, w64, refl, ap, ap₂, ◌∙◌}
use Rattle.std.proofs.lemmas.Int.{to_z-of_z}
use Rattle.std.proofs.lemmas.Result.{err_from_is_err_and}
use Rattle.tmem_fault.specs.declared.fault.Fault.TheVariants.{Memory}
use Rattle.tmem_desk.specs.Held.{desk_view}
use Rattle.tmem_desk.specs.Serving.{tells}
use Rattle.tmem_desk.specs.Told.{answer_told}
use Rattle.tmem_desk.specs.declared.counts.AnswerCounts.{AnswerCounts}
use Rattle.tmem_desk.specs.declared.told.Told.{Told}
use Rattle.tmem_desk.proofs.Losing.{handed}
use Rattle.tmem_desk.proofs.desk.Desk.tell.Goals as goal

pub returns-clause-ok : goal.returns-clause-ok
returns-clause-ok g c =
    ap₂ (λ (told : List Told) (counts : AnswerCounts). record (desk_view c.args.self.now) { told = told; counts = counts }) c.in_ok-push.ensures.items c.note.ensures
    ∙ ap (λ (id : ℤ). tells (desk_view c.args.self.now) (answer_told id c.args.answer ∷ [])) (to_z-of_z w64 c.args.id c.ranges.id)

pub returns-in_err-push-clause-ok : goal.returns-in_err-push-clause-ok
returns-in_err-push-clause-ok g c = rw (err_from_is_err_and c.from_residual.result c.from_residual.ensures.1).1 tt

pub returns-in_err-push-clause-err : goal.returns-in_err-push-clause-err
returns-in_err-push-clause-err g c = handed c.from_residual.result Memory _ c.from_residual.ensures.1 refl
