use Rattle.std.proofs.Common.{ℕ, List, ◌+◌, ◌++◌, ◌∙◌, ap, length, take, flat_map, sum_by, arith, refl}
use Rattle.std.proofs.lemmas.List.{take_all}
use Rattle.std.proofs.lemmas.List.Sums.{sum_by_more}
use Rattle.tmem_record.specs.Spelling.{name_bytes}
use Rattle.tmem_record.proofs.CodecWrites.{name_put, name_room, drop_further}
use Rattle.tmem_record.proofs.codec.put_names.Goals as goal

pub put-at-requires : goal.put-at-requires
put-at-requires c =
    let room = name_room c.args.names.now c.loop-name.name-index c.args.start c.loop-name.at (length c.args.into.now) c.name-item.result c.loop-name-test.true c.loop-name.invariant.at c.requires in
    omega (arith, room, c.loop-name.auto.into)

pub put-at-requires-in-loop-name : goal.put-at-requires-in-loop-name
put-at-requires-in-loop-name c =
    let room = name_room c.args.names.now c.loop-name.name-index c.args.start c.loop-name.at (length c.args.into.now) c.name-item.result c.loop-name-test.true c.loop-name.invariant.at c.requires in
    omega (arith, room, ap length (c.as_bytes-letters.ensures.bytes ∙ c.name-item.is), c.put-at.ensures.next, c.put-at.auto.into, c.loop-name.auto.into)

pub loop-name-preserved : goal.loop-name-preserved
loop-name-preserved c =
    let same = c.as_bytes-letters.ensures.bytes ∙ c.name-item.is in
    let more = sum_by_more (λ n. 1 + length n) c.args.names.now c.loop-name.name-index c.name-item.result c.loop-name-test.true in
    record {
      at = omega (arith, more, ap length same, c.put-at.ensures.next, c.put-at-in-loop-name.ensures.next, c.loop-name.invariant.at);
      front = name_put c.args.names.now c.loop-name.name-index c.name-item.result c.loop-name-test.true _ _ _ _ _ _ c.loop-name.invariant.front c.put-at.ensures.front c.put-at-in-loop-name.ensures.front refl same;
      rest =
          let once = c.put-at-in-loop-name.ensures.next in
          c.put-at-in-loop-name.ensures.rest ∙ drop_further c.put-at.result c.put-at-in-loop-name.result _ _ (omega (arith, once)) (c.put-at.ensures.rest ∙ drop_further c.loop-name.at c.put-at.result _ _ (omega (arith, c.put-at.ensures.next)) c.loop-name.invariant.rest);
    }

pub returns-clause-next : goal.returns-clause-next
returns-clause-next c =
    let all = take_all c.loop-name.name-index c.args.names.now c.loop-name-test.false in
    c.loop-name.invariant.at ∙ ap (λ (ns : List (List ℕ)). c.args.start + sum_by (λ n. 1 + length n) ns) all

pub returns-clause-front : goal.returns-clause-front
returns-clause-front c =
    let all = take_all c.loop-name.name-index c.args.names.now c.loop-name-test.false in
    c.loop-name.invariant.front ∙ ap (λ (ns : List (List ℕ)). take c.args.start c.args.into.now ++ flat_map name_bytes ns) all
