use Rattle.std.proofs.Common.{rules, sym, ap, length, take, arith, get_or, pos, w64, FitsSigned}
use Rattle.std.proofs.lemmas.Int.{to_z-of_z}
use Rattle.tmem_effect.proofs.Laws.{length-written, written-next}
use Rattle.tmem_state.proofs.state.set_all.Goals as goal

pub index_mut-requires : goal.index_mut-requires
index_mut-requires c =
    let same = length-written c.args.values.now.items (take c.loop-write.write-index c.args.writes.now) in
    omega (arith, same, ap length c.loop-write.invariant, c.requires c.loop-write.write-index (0, pos 0) c.loop-write-test.true)

pub loop-write-preserved : goal.loop-write-preserved
loop-write-preserved c =
    let write = get_or c.args.writes.now c.loop-write.write-index (0, pos 0) in
    let fits : FitsSigned w64 write.1 = search rules in
    let next = written-next c.args.values.now.items c.args.writes.now c.loop-write.write-index (0, pos 0) c.loop-write-test.true in
    rw (to_z-of_z w64 write.1 fits, c.loop-write.invariant) (sym next)
