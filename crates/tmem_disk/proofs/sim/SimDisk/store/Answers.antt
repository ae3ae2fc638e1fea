use Rattle.std.proofs.lemmas.Grind.{common_steps}
use Rattle.std.proofs.Common.{arith, ap}
use Rattle.tmem_disk.specs.Disk.{overwritten}
use Rattle.tmem_disk.specs.Sim.{Bytes}
use Rattle.tmem_disk.proofs.Laws.{SameOutside-overwritten}
use Rattle.tmem_disk.proofs.sim.SimDisk.store.Goals as goal

pub invariant_of-self-clause-agrees : goal.invariant_of-self-clause-agrees
invariant_of-self-clause-agrees c =
    let d = c.args.self.now in
    let kept = ap (λ (b : Bytes). b.present) c.touch.ensures.bytes in
    let left = overwritten d.present.items c.args.from c.args.bytes.now in
    let same = SameOutside-overwritten d.present.items c.args.from c.args.bytes.now c.requires in
    rw (c.overwrite.ensures, kept) ((c.touch.ensures.crash tt left).1 (d.present.items, d.agrees, same))

pub returns-clause-crash : goal.returns-clause-crash
returns-clause-crash c = c.touch.ensures.crash

pub returns-clause-time : goal.returns-clause-time
returns-clause-time c =
    let time = c.touch.ensures.time in
    record { later = time.later; nothing_else = time.nothing_else; keeps = time.keeps; before_or_since = time.before_or_since }

pub invariant_of-self-clause-long : goal.invariant_of-self-clause-long
invariant_of-self-clause-long c = grind (arith, common_steps)
