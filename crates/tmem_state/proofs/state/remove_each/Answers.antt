use Rattle.std.proofs.Common.{sym, ◌∙◌, ap, take}
use Rattle.tmem_effect.specs.Names.{without_names, without_name}
use Rattle.tmem_effect.proofs.Laws.{without_names-next}
use Rattle.tmem_state.proofs.state.remove_each.Goals as goal

pub loop-name-preserved : goal.loop-name-preserved
loop-name-preserved c =
    let next = without_names-next c.args.names.now c.args.fewer.now c.loop-name.name-index c.name-item.result c.loop-name-test.true in
    rw (c.remove.ensures, c.loop-name.invariant) (sym (next ∙ ap (without_name (without_names c.args.names.now (take c.loop-name.name-index c.args.fewer.now))) (sym c.name-item.is)))
