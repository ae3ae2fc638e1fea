use Rattle.serde_json.specs.View.{view}
use Rattle.tmem_explain.proofs.Amisses.{item_there}
use Rattle.tmem_explain.proofs.script.note_entries.Goals as goal

pub returns-in_default : goal.returns-in_default
returns-in_default c =
    c.note.ensures (view c.args.whole.now)
    (c.inside.ensures.amiss (view c.args.whole.now) (view c.args.events.now) c.requires c.find_no_array-found.ensures)

pub loop-i-preserved : goal.loop-i-preserved
loop-i-preserved c = λ old.
    let there = item_there c.args.events.now c.in-Array.items c.deref-item-items.result.now c.loop-i.i c.item-item.result c.in-Array.is c.deref-item-items.ensures.value c.loop-i-test.true c.item-item.is in
    let found = c.inside-found.ensures.amiss (view c.args.events.now) (view c.item-item.result) there c.find_in_entry.ensures in
    c.in_ok-note.ensures (view c.args.whole.now) (c.inside-in-loop-i.ensures.amiss (view c.args.whole.now) (view c.args.events.now) c.requires found) (c.loop-i.invariant old)
