use Rattle.std.proofs.Common.{◌≡◌, ◌<◌, ◌+◌, ◌++◌, ◌∷◌, [], ◌∙◌, List, length, arith, sym, ap, subst, length-append, append_assoc}
use Rattle.std.specs.Vec.{vec_capacity, vec_len}
use Rattle.std.proofs.lemmas.Grind.{common_steps}
use Rattle.tmem_event.specs.declared.event.Event.{Event}
use Rattle.tmem_event.specs.declared.event.Reply.{Reply}
use Rattle.tmem_world.specs.EachPlayed.{IsPlayed, PlaysEach}
use Rattle.tmem_world.proofs.Played.{one_by_one-append, all_kept, all_failures, all_run, all_on_any_device, all_elsewhere, all_on}
use Rattle.tmem_world.proofs.world.World.play.Goals as goal

pub loop-event-preserved : goal.loop-event-preserved
loop-event-preserved g c =
    let so = c.loop-event.invariant in
    let taken : c.loop-event.event-iterator.rest.items ≡ c.in-Some.event ∷ c.next.new.self.rest.items = c.in-Some.ensures.steps.0 in
    let parts : (c.loop-event.yielded ++ c.in-Some.event ∷ []) ++ c.next.new.self.rest.items ≡ c.args.events.items =
    append_assoc c.loop-event.yielded (c.in-Some.event ∷ []) c.next.new.self.rest.items ∙ ap (λ (es : List Event). c.loop-event.yielded ++ es) (sym taken) ∙ so.parts in
    let more = length-append (c.loop-event.yielded ++ c.in-Some.event ∷ []) c.next.new.self.rest.items in
    let one : length (c.loop-event.yielded ++ c.in-Some.event ∷ []) ≡ length c.loop-event.yielded + 1 = length-append c.loop-event.yielded (c.in-Some.event ∷ []) in
    let room : vec_len c.loop-event.replies < vec_capacity c.loop-event.replies = omega (arith, more, one, ap length parts, so.room, so.long) in
    let pushed : c.push.new.self.items ≡ c.loop-event.replies.items ++ c.step-reply.result ∷ [] = grind (arith, common_steps) in
    let now = c.step-reply.ensures in
    record {
      parts = parts;
      long = grind (arith, common_steps, one);
      room = omega (arith, so.room, c.push.ensures.capacity);
      each = subst (λ (rs : List Reply). PlaysEach c.args.self.now (c.loop-event.yielded ++ c.in-Some.event ∷ []) rs c.step-reply.new.self) (sym pushed)
          (one_by_one-append (λ w e r w'. IsPlayed w e r w') c.args.self.now c.loop-event.yielded c.loop-event.replies.items c.loop-event.self c.in-Some.event c.step-reply.result c.step-reply.new.self so.each
          (record { answered = record { step = now.step; reopened = now.reopened; any_moment = now.any_moment; elsewhere = now.elsewhere; failures = now.failures; failed_call = now.failed_call; still = now.still; kept = now.kept }; chain = now.chain }));
    }

pub returns : goal.returns
returns g c =
    let w = c.args.self.now in
    let new = c.loop-event.self in
    let es = c.args.events.items in
    let rs = c.loop-event.replies.items in
    let all : c.loop-event.yielded ≡ es = grind (arith, common_steps) in
    let each : PlaysEach w es rs new = subst (λ (l : List Event). PlaysEach w l rs new) all c.loop-event.invariant.each in
    let device = g.met.D.Disk.is_device in
    record {
      each = each;
      run = all_run w es rs new each;
      any_device = all_on_any_device w es rs new each;
      chain = all_on device w es rs new each;
      elsewhere = all_elsewhere device w es rs new each;
      failures = all_failures w es rs new each;
      kept = all_kept w es rs new each;
      err = tt;
    }

pub returns-in_err-replies-clause-elsewhere : goal.returns-in_err-replies-clause-elsewhere
returns-in_err-replies-clause-elsewhere g c = grind (arith, common_steps)
