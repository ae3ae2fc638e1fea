use Rattle.std.proofs.Common.{◌≡◌, [], ◌∷◌, ℤ, w64, inl, inr, refl, subst}
use Rattle.std.proofs.lemmas.Int.{to_z-of_z}
use Rattle.tmem_answers.specs.declared.answer.Answer.TheVariants as answer
use Rattle.tmem_desk.specs.Held.{desk_view}
use Rattle.tmem_desk.specs.Serving.{tells}
use Rattle.tmem_desk.specs.Told.{answer_told}
use Rattle.tmem_desk.proofs.Losing.{handed}
use Rattle.tmem_desk.proofs.desk.Desk.tell_fault.Goals as goal

pub returns-in_err-tell-clause-err : goal.returns-in_err-tell-clause-err
returns-in_err-tell-clause-err g c = handed c.from_residual.result c.in_err-tell.field-0.0 _ c.from_residual.ensures.1 (inl c.in_err-tell.ensures.err)

pub returns-clause-err : goal.returns-clause-err
returns-clause-err g c =
    inr (
      refl,
      subst (λ (id : ℤ). desk_view c.tell.new.self ≡ tells (desk_view c.args.self.now) (answer_told id (answer.Fault c.args.fault.now) ∷ [])) (to_z-of_z w64 c.args.id c.ranges.id) c.in_ok-tell.ensures.ok,
    )
