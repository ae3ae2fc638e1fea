use Rattle.std.proofs.Common.{◌+◌, ◌++◌, codes, flat_map, take, true, refl}
use Rattle.std.proofs.lemmas.Grind.{put_three}
use Rattle.tmem_answers.proofs.Listing.{text_more}
use Rattle.tmem_answers.proofs.array.write_others.Goals as goal

pub loop-item-preserved : goal.loop-item-preserved
loop-item-preserved g c = λ plain.
    let items = c.args.items.now in
    let i = c.loop-item.item-index in
    let before = c.loop-item.invariant plain in
    let comma = c.in_ok-write_str.ensures.writes before.plain (refl {a = true}) in
    let text = c.in_ok-write.ensures comma.plain (refl {a = true}) in
    put_three g.W.Write.write_str_gives c.args.f.now c.loop-item.f c.write_str.new.self c.write.new.f (flat_map (λ item. codes "," ++ g.T.Listed.text item) (take i items)) (codes ",") (g.T.Listed.text c.item-item.result) (flat_map (λ item. codes "," ++ g.T.Listed.text item) (take (i + 1) items))
    before comma text (text_more (λ item. codes "," ++ g.T.Listed.text item) items i c.item-item.result c.loop-item-test.true c.item-item.is)
