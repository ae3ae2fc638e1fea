use Rattle.serde_json.specs.View.{view}
use Rattle.tmem_requests.specs.Wrong.{IsTrueOf, part}
use Rattle.tmem_requests.proofs.Wrongs.{handed, item_there}
use Rattle.tmem_requests.proofs.explain.body.find_in_items.Goals as goal

pub returns-in_err-inside : goal.returns-in_err-inside
returns-in_err-inside c =
    let there = item_there c.args.value.now c.in-Array.items c.deref-item-items.result.now c.loop-i.i c.item-item.result c.in-Array.is c.deref-item-items.ensures.value c.loop-i-test.true c.item-item.is in
    handed (λ w. IsTrueOf part (view c.args.value.now) w) c.from_residual.result c.in_err-inside.field-0.0 c.from_residual.ensures.1
    (c.in_err-inside.ensures.told part (view c.args.value.now) (view c.item-item.result) there c.find_in_item.ensures)
