use Rattle.std.proofs.Common.{◌++◌, ◌∷◌, [], ℤ, List, FitsSigned, w64, ap, sym, append_assoc, ◌∙◌, arith, rules}
use Rattle.std.proofs.lemmas.Int.{to_z-of_z}
use Rattle.std.proofs.lemmas.List.{append-nil}
use Rattle.std.proofs.lemmas.Result.{err_from_is_err_and}
use Rattle.tmem_fault.specs.declared.fault.Fault.TheVariants as fault
use Rattle.tmem_answers.specs.declared.answer.Answer.TheVariants as answer
use Rattle.tmem_desk.specs.Held.{asked, asking, desk_view}
use Rattle.tmem_desk.specs.Serving.{tells}
use Rattle.tmem_desk.specs.Told.{answer_told}
use Rattle.tmem_desk.specs.declared.told.Told.{Told}
use Rattle.tmem_desk.proofs.Telling.{closes_all, closes_more}
use Rattle.tmem_desk.proofs.Losing.{handed}
use Rattle.tmem_desk.proofs.desk.Desk.close_waiting.Goals as goal

pub loop-one-init : goal.loop-one-init
loop-one-init g c = record {
  parts = ap (λ v. v.items) (c.into_iter-one-iterator.ensures.into_iter_gives.0 ∙ c.replace-waiting.ensures.value);
  told = ap (λ ws. record (desk_view c.args.self.now) { waiting = asking ws }) (ap (λ v. v.items) c.replace-waiting.ensures.after ∙ c.new.ensures.items)
      ∙ ap (λ (ts : List Told). record (desk_view c.args.self.now) { waiting = []; told = ts }) (sym (append-nil c.args.self.now.told.items));
}

pub loop-one-preserved-in_ok-tell : goal.loop-one-preserved-in_ok-tell
loop-one-preserved-in_ok-tell g c =
    let fits : FitsSigned w64 c.in-Some.one.id = first_of (search (rules, c.next.type_inv), search rules) in
    record {
      parts = append_assoc c.loop-one.yielded (c.in-Some.one ∷ []) c.next.new.self.rest.items ∙ (ap (λ ws. c.loop-one.yielded ++ ws) (sym c.in-Some.ensures.steps.0) ∙ c.loop-one.invariant.parts);
      told = closes_more (λ w. (w.id, asked w.held)) c.loop-one.yielded c.in-Some.one (record (desk_view c.args.self.now) { waiting = [] }) (desk_view c.loop-one.self) (desk_view c.tell.new.self) c.loop-one.invariant.told
          (c.in_ok-tell.ensures.ok ∙ ap (λ (id : ℤ). tells (desk_view c.loop-one.self) (answer_told id (answer.Fault fault.Closed) ∷ [])) (to_z-of_z w64 c.in-Some.one.id fits));
    }

pub loop-one-preserved : goal.loop-one-preserved
loop-one-preserved g c =
    let fits : FitsSigned w64 c.in-Some.one.id = first_of (search (rules, c.next.type_inv), search rules) in
    record {
      parts = append_assoc c.loop-one.yielded (c.in-Some.one ∷ []) c.next.new.self.rest.items ∙ (ap (λ ws. c.loop-one.yielded ++ ws) (sym c.in-Some.ensures.steps.0) ∙ c.loop-one.invariant.parts);
      told = closes_more (λ w. (w.id, asked w.held)) c.loop-one.yielded c.in-Some.one (record (desk_view c.args.self.now) { waiting = [] }) (desk_view c.loop-one.self) (desk_view c.tell.new.self) c.loop-one.invariant.told
          (c.in_ok-tell.ensures.ok ∙ ap (λ (id : ℤ). tells (desk_view c.loop-one.self) (answer_told id (answer.Fault fault.Closed) ∷ [])) (to_z-of_z w64 c.in-Some.one.id fits));
    }

pub returns-in_err-tell-clause-err : goal.returns-in_err-tell-clause-err
returns-in_err-tell-clause-err g c = handed c.from_residual.result c.in_err-tell.field-0.0 _ c.from_residual.ensures.1 c.in_err-tell.ensures.err

pub returns-clause-told : goal.returns-clause-told
returns-clause-told g c =
    closes_all (λ w. (w.id, asked w.held)) c.loop-one.yielded c.loop-one.one-iterator.rest.items c.args.self.now.waiting.items (record (desk_view c.args.self.now) { waiting = [] }) (desk_view c.loop-one.self) c.loop-one.invariant.parts
    (omega (arith, c.in-None.ensures.steps.0, c.loop-one.one-iterator.rest.ok.0)) c.loop-one.invariant.told

pub returns-in_err-tell-clause-told : goal.returns-in_err-tell-clause-told
returns-in_err-tell-clause-told g c = rw (err_from_is_err_and c.from_residual.result c.from_residual.ensures.1).1 tt

pub returns-in_err-tell-clause-pass : goal.returns-in_err-tell-clause-pass
returns-in_err-tell-clause-pass g c = rw (err_from_is_err_and c.from_residual.result c.from_residual.ensures.1).1 tt
