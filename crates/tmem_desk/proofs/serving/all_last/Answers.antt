use Rattle.std.proofs.lemmas.Grind.{common_steps}
use Rattle.std.proofs.Common.{arith, List, ◌++◌, ◌∷◌, [], ◌∙◌, ap, append_assoc, sym}
use Rattle.std.proofs.lemmas.List.{map_push}
use Rattle.tmem_desk.specs.Told.{told_last}
use Rattle.tmem_desk.specs.declared.told.Told.{Told}
use Rattle.tmem_desk.proofs.serving.all_last.Goals as goal

pub loop-one-preserved : goal.loop-one-preserved
loop-one-preserved c = record {
  parts = append_assoc c.loop-one.yielded (c.in-Some.one ∷ []) c.next.new.self.rest.items ∙ (ap (λ (l : List Told). c.loop-one.yielded ++ l) (sym c.in-Some.ensures.steps.0) ∙ c.loop-one.invariant.parts);
  all =
      c.in_ok-push.ensures.items
      ∙ (ap (λ (t : Told). c.loop-one.all.items ++ t ∷ []) c.last_told.ensures
      ∙ (ap (λ (l : List Told). l ++ told_last c.args.durable c.args.fault.now c.in-Some.one ∷ []) c.loop-one.invariant.all
      ∙ sym (map_push (told_last c.args.durable c.args.fault.now) c.loop-one.yielded c.in-Some.one)));
}

pub returns : goal.returns
returns c = grind (arith, common_steps)
