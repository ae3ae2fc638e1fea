use Rattle.std.proofs.Common.{◌≡◌, ◌+◌, ◌-◌, ◌++◌, [], ◌∷◌, length, replicate, append_assoc, sym, ap, ◌∙◌, arith, rules}
use Rattle.std.proofs.lemmas.List.{replicate_more}
use Rattle.tmem_tentative.specs.Stages.{no_save}
use Rattle.tmem_tentative.proofs.cursor.make_room.Goals as goal

pub loop-saves-preserved : goal.loop-saves-preserved
loop-saves-preserved c =
    let saves = c.loop-saves.saves.items in
    let old = c.args.saves.now.items in
    let had = c.len-had.result in
    let now : c.push.new.self.items ≡ saves ++ no_save ∷ [] = search rules in
    let long : length c.push.new.self.items ≡ length saves + 1 = search rules in
    let count : length c.push.new.self.items - had ≡ length saves - had + 1 = omega (arith, c.loop-saves.invariant.more) in
    record {
      added = now ∙ ap (λ l. l ++ no_save ∷ []) c.loop-saves.invariant.added ∙ append_assoc old (replicate (length saves - had) no_save) (no_save ∷ []) ∙ ap (λ l. old ++ l) (replicate_more (length saves - had) no_save) ∙ ap (λ n. old ++ replicate n no_save) (sym count);
      more = omega (arith, c.loop-saves.invariant.more);
      no_more = omega (arith, c.loop-saves-test.true, c.len.ensures, c.loop-saves.saves.ok.0);
    }
