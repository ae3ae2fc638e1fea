use Rattle.std.proofs.Common.{◌≡◌, ◌-◌, ◌<◌, ℕ, true, [], ◌∷◌, ◌++◌, length, drop, Some, arith, sym, ap, subst, ◌∙◌}
use Rattle.std.specs.Prelude.{slice_get}
use Rattle.std.proofs.lemmas.Bool.{false≢true}
use Rattle.std.proofs.lemmas.List.{length_push}
use Rattle.std.proofs.lemmas.List.Elements.{All-drop}
use Rattle.tmem_effect.specs.Loggable.{IsLoggable}
use Rattle.tmem_core.specs.Taking.{BatchHasRoom}
use Rattle.tmem_disk.proofs.Laws.{slice_get-drop}
use Rattle.tmem_core.proofs.Indices.{All-there}
use Rattle.tmem_core.proofs.Taken.{taken_more, each_taken, few_taken, taken_full, taken_to_end, rest_of}
use Rattle.tmem_core.proofs.core_state.Core.take.Goals as goal

pub returns-then-not-has_room-clause-taken : goal.returns-then-not-has_room-clause-taken
returns-then-not-has_room-clause-taken g c =
    let core = c.args.self.now in
    taken_full (drop (c.args.from - core.durable) core.waiting) c.loop-index.batch c.loop-index.invariant.1 (λ room. false≢true (c.if-not-has_room.ensures.1 room))

pub returns-then-not-has_room-clause-rest : goal.returns-then-not-has_room-clause-rest
returns-then-not-has_room-clause-rest g c =
    let core = c.args.self.now in
    let is = taken_full (drop (c.args.from - core.durable) core.waiting) c.loop-index.batch c.loop-index.invariant.1 (λ room. false≢true (c.if-not-has_room.ensures.1 room)) in
    rest_of core.waiting c.loop-index.batch (c.args.from - core.durable) _ is (omega (arith, c.requires.known))

pub push-requires-clause-not_empty : goal.push-requires-clause-not_empty
push-requires-clause-not_empty g c =
    let core = c.args.self.now in
    (All-there (IsLoggable _) core.waiting c.loop-index.index c.get.result.now core.each c.get.ensures).not_empty

pub push-requires-clause-apart : goal.push-requires-clause-apart
push-requires-clause-apart g c =
    let core = c.args.self.now in
    (All-there (IsLoggable _) core.waiting c.loop-index.index c.get.result.now core.each c.get.ensures).effect.apart

pub loop-index-preserved : goal.loop-index-preserved
loop-index-preserved g c =
    let core = c.args.self.now in
    let batch = c.loop-index.batch in
    let e = c.get.result.now in
    let room : BatchHasRoom batch = c.has_room.ensures.0 c.if-not-has_room.false in
    let pushed : c.push.result ≡ true = c.push.ensures.room room.0 room.1 in
    let new : c.push.new.self ≡ batch ++ e ∷ [] = rw pushed at c.push.ensures.pushed in
    let there : slice_get (drop (c.args.from - core.durable) core.waiting) (length batch) ≡ Some e =
    slice_get-drop core.waiting (c.args.from - core.durable) (length batch) ∙ ap (slice_get core.waiting) (sym c.loop-index.invariant.0) ∙ c.get.ensures in
    let more = taken_more (drop (c.args.from - core.durable) core.waiting) batch c.loop-index.invariant.1 e there room in
    rw new (omega (arith, c.loop-index.invariant.0, length_push batch e), more)

pub get-requires : goal.get-requires
get-requires g c = subst (λ (n : ℕ). c.loop-index.index < n) c.len-index-end.ensures c.loop-index-test.true

pub returns-then-not-has_room-clause-each : goal.returns-then-not-has_room-clause-each
returns-then-not-has_room-clause-each g c =
    let core = c.args.self.now in
    let Logs = IsLoggable (length core.state.values) in
    each_taken (drop (c.args.from - core.durable) core.waiting) c.loop-index.batch c.loop-index.invariant.1 Logs (All-drop Logs (c.args.from - core.durable) core.waiting core.each)

pub returns-then-not-has_room-clause-few : goal.returns-then-not-has_room-clause-few
returns-then-not-has_room-clause-few g c =
    let core = c.args.self.now in
    few_taken (drop (c.args.from - core.durable) core.waiting) c.loop-index.batch c.loop-index.invariant.1

pub returns-clause-each : goal.returns-clause-each
returns-clause-each g c =
    let core = c.args.self.now in
    let Logs = IsLoggable (length core.state.values) in
    each_taken (drop (c.args.from - core.durable) core.waiting) c.loop-index.batch c.loop-index.invariant.1 Logs (All-drop Logs (c.args.from - core.durable) core.waiting core.each)

pub returns-clause-few : goal.returns-clause-few
returns-clause-few g c =
    let core = c.args.self.now in
    few_taken (drop (c.args.from - core.durable) core.waiting) c.loop-index.batch c.loop-index.invariant.1

pub returns-clause-taken : goal.returns-clause-taken
returns-clause-taken g c =
    let core = c.args.self.now in
    taken_to_end core.waiting c.loop-index.batch (c.args.from - core.durable) c.loop-index.index _ c.loop-index.invariant.1 c.loop-index.invariant.0 c.len-index-end.ensures c.loop-index-test.false

pub returns-clause-rest : goal.returns-clause-rest
returns-clause-rest g c =
    let core = c.args.self.now in
    let is = taken_to_end core.waiting c.loop-index.batch (c.args.from - core.durable) c.loop-index.index _ c.loop-index.invariant.1 c.loop-index.invariant.0 c.len-index-end.ensures c.loop-index-test.false in
    rest_of core.waiting c.loop-index.batch (c.args.from - core.durable) _ is (omega (arith, c.requires.known))
