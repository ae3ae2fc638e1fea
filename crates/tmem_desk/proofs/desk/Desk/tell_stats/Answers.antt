use Rattle.std.proofs.Common.{◌≡◌, ℤ, w64, [], ◌∷◌, length, refl, sym, ◌∙◌, subst, arith}
use Rattle.std.proofs.lemmas.Int.{to_z-of_z}
use Rattle.std.proofs.lemmas.List.{length-map}
use Rattle.std.proofs.lemmas.Result.{on_ok_weaker}
use Rattle.tmem_answers.specs.declared.answer.Answer.TheVariants as answer
use Rattle.tmem_answers.specs.declared.answer.Stats.{Stats}
use Rattle.tmem_desk.specs.Desks.{DeskView}
use Rattle.tmem_desk.specs.Held.{desk_view}
use Rattle.tmem_desk.specs.Serving.{TellsStats, tells}
use Rattle.tmem_desk.specs.Told.{answer_told}
use Rattle.tmem_desk.proofs.desk.Desk.tell_stats.Goals as goal

-- what is counted, under the id that is read back from what is passed
counted : (id id' : ℤ) (stats : Stats) (v w : DeskView) → id' ≡ id → stats.committed ≡ v.counts.committed → stats.refused ≡ v.counts.refused → stats.conflicts ≡ v.counts.conflicts
    → stats.waiting ≡ length v.waiting → stats.kept ≡ length v.kept → w ≡ tells v (answer_told id' (answer.Stats stats) ∷ []) → TellsStats id v w
counted id id' stats v w same committed refused conflicts waiting kept is = record {
  stats = stats;
  committed = committed;
  refused = refused;
  conflicts = conflicts;
  waiting = waiting;
  kept = kept;
  is = subst (λ (i : ℤ). w ≡ tells v (answer_told i (answer.Stats stats) ∷ [])) same is;
}

pub returns-clause-ok : goal.returns-clause-ok
returns-clause-ok g c =
    let waiting : c.len.result ≡ length c.args.self.now.waiting.items = omega arith in
    let kept : c.len-2.result ≡ length c.args.self.now.kept.items = omega arith in
    on_ok_weaker c.tell.result
    (counted c.args.id _ _ (desk_view c.args.self.now) (desk_view c.tell.new.self) (to_z-of_z w64 c.args.id c.ranges.id) refl refl refl
    (waiting ∙ sym (length-map c.args.self.now.waiting.items _)) (kept ∙ sym (length-map c.args.self.now.kept.items _)))
    c.tell.ensures.ok
