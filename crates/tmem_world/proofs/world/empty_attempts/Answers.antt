use Rattle.std.proofs.Common.{◌≡◌, None, subst, sym, arith, length-append}
use Rattle.std.specs.Prelude.{All}
use Rattle.std.proofs.lemmas.List.Elements.{All-push}
use Rattle.tmem_world.specs.declared.attempt.WorldAttempt.{WorldAttempt}
use Rattle.tmem_world.proofs.world.empty_attempts.Goals as goal

pub loop-preserved : goal.loop-preserved
loop-preserved c =
    let items = c.in_ok-push.ensures.items in
    record {
      emptied = subst (All (λ (attempt : WorldAttempt). attempt.plan ≡ None)) (sym items) (All-push (λ (attempt : WorldAttempt). attempt.plan ≡ None) c.loop.attempts.items c.new.result c.loop.invariant.emptied c.new.ensures);
      len = grind (arith, items, length-append, c.loop.invariant.len);
    }
