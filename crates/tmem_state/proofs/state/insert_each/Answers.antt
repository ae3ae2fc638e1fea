use Rattle.std.proofs.Common.{sym, ◌∙◌, ap, take}
use Rattle.tmem_effect.specs.Names.{with_names, insert_name}
use Rattle.tmem_effect.proofs.Laws.{room_for_next, with_names-next}
use Rattle.tmem_state.proofs.state.insert_each.Goals as goal

pub insert-requires : goal.insert-requires
insert-requires c absent =
    let next = room_for_next c.args.names.now c.args.more.now c.loop-name.name-index c.name-item.result c.loop-name-test.true c.requires in
    rw c.loop-name.invariant (next (rw (← c.loop-name.invariant, ← c.name-item.is) absent))

pub loop-name-preserved : goal.loop-name-preserved
loop-name-preserved c =
    let next = with_names-next c.args.names.now c.args.more.now c.loop-name.name-index c.name-item.result c.loop-name-test.true in
    rw (c.insert.ensures, c.loop-name.invariant) (sym (next ∙ ap (insert_name (with_names c.args.names.now (take c.loop-name.name-index c.args.more.now))) (sym c.name-item.is)))
