use Rattle.std.proofs.Common.{◌≡◌, sym, subst}
use Rattle.tmem_event.specs.Events.{NamesAttempt}
use Rattle.tmem_event.specs.declared.event.Event.{Event}
use Rattle.tmem_event.specs.declared.event.Reply.{Reply}
use Rattle.tmem_world.specs.declared.world.World.{World}
use Rattle.tmem_world.specs.EachPlayed.{IsAnswered, IsPlayed}
use Rattle.tmem_world.proofs.Chains.{answered_on}
use Rattle.tmem_world.proofs.world.World.step.Goals as goal

-- an event is played as the equal one was answered
played : {D T S : Type 0} {d t s : _} (w w' : World D T S d t s) (e e' : Event) (r : Reply) → e ≡ e' → IsAnswered w e' r w' → IsPlayed w e r w'
played w w' e e' r is it = record { answered = subst (λ (x : Event). IsAnswered w x r w') (sym is) it; chain = answered_on w w' e e' r is it }

pub returns-in-Begin : goal.returns-in-Begin
returns-in-Begin g c =
    let it = played c.args.self.now _ c.args.event _ _ c.in-Begin.is c.begin.ensures in
    let so = it.answered in
    record { step = so.step; reopened = so.reopened; any_moment = so.any_moment; elsewhere = so.elsewhere; chain = it.chain; failures = so.failures; failed_call = so.failed_call; still = so.still; kept = so.kept }

pub returns-in-Turn : goal.returns-in-Turn
returns-in-Turn g c =
    let it = played c.args.self.now _ c.args.event _ _ c.in-Turn.is c.turn.ensures in
    let so = it.answered in
    record { step = so.step; reopened = so.reopened; any_moment = so.any_moment; elsewhere = so.elsewhere; chain = it.chain; failures = so.failures; failed_call = so.failed_call; still = so.still; kept = so.kept }

pub returns-in-Settle : goal.returns-in-Settle
returns-in-Settle g c =
    let it = played c.args.self.now _ c.args.event _ _ c.in-Settle.is c.settle.ensures in
    let so = it.answered in
    record { step = so.step; reopened = so.reopened; any_moment = so.any_moment; elsewhere = so.elsewhere; chain = it.chain; failures = so.failures; failed_call = so.failed_call; still = so.still; kept = so.kept }

pub returns-in-Flush : goal.returns-in-Flush
returns-in-Flush g c =
    let it = played c.args.self.now _ c.args.event _ _ c.in-Flush.is c.flush.ensures in
    let so = it.answered in
    record { step = so.step; reopened = so.reopened; any_moment = so.any_moment; elsewhere = so.elsewhere; chain = it.chain; failures = so.failures; failed_call = so.failed_call; still = so.still; kept = so.kept }

pub returns-in-Checkpoint : goal.returns-in-Checkpoint
returns-in-Checkpoint g c =
    let it = played c.args.self.now _ c.args.event _ _ c.in-Checkpoint.is c.checkpoint.ensures in
    let so = it.answered in
    record { step = so.step; reopened = so.reopened; any_moment = so.any_moment; elsewhere = so.elsewhere; chain = it.chain; failures = so.failures; failed_call = so.failed_call; still = so.still; kept = so.kept }

pub returns-in-Look : goal.returns-in-Look
returns-in-Look g c =
    let it = played c.args.self.now _ c.args.event _ _ c.in-Look.is c.look.ensures in
    let so = it.answered in
    record { step = so.step; reopened = so.reopened; any_moment = so.any_moment; elsewhere = so.elsewhere; chain = it.chain; failures = so.failures; failed_call = so.failed_call; still = so.still; kept = so.kept }

pub returns-in-Reopen : goal.returns-in-Reopen
returns-in-Reopen g c =
    let it = played c.args.self.now _ c.args.event _ _ c.in-Reopen.is c.reopen.ensures in
    let so = it.answered in
    record { step = so.step; reopened = so.reopened; any_moment = so.any_moment; elsewhere = so.elsewhere; chain = it.chain; failures = so.failures; failed_call = so.failed_call; still = so.still; kept = so.kept }

pub begin-requires : goal.begin-requires
begin-requires g c = subst (λ (x : Event). NamesAttempt x) c.in-Begin.is c.requires

pub turn-requires : goal.turn-requires
turn-requires g c = subst (λ (x : Event). NamesAttempt x) c.in-Turn.is c.requires

pub settle-requires : goal.settle-requires
settle-requires g c = subst (λ (x : Event). NamesAttempt x) c.in-Settle.is c.requires
