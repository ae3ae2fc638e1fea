use Rattle.std.proofs.Common.{◌∙◌, arith}
use Rattle.tmem_disk.proofs.Past.{elapses_to}
use Rattle.tmem_disk.proofs.Laws.{SameOutside-refl}
use Rattle.tmem_disk.proofs.Unsynced.{left_after, left_all, unsynced_long, same_bytes}
use Rattle.tmem_disk.proofs.sim.SimDisk.touch.Goals as goal

pub invariant_of-self : goal.invariant_of-self
invariant_of-self c =
    let d = c.args.self.now in
    let same = d.long ∙ d.agrees.size in
    let at = c.args.from in
    let n = c.args.count in
    record {
      agrees = rw (c.leave_unsynced.ensures.unsynced, c.leave_unsynced.ensures.synced) (left_all d.platter.synced.items d.platter.unsynced.items at n same (omega (arith, same, d.long, c.requires)) d.present.items (d.present.items, d.agrees, SameOutside-refl at n d.present.items));
      long = unsynced_long d.platter.unsynced.items _ at n (omega (arith, d.long, c.requires)) c.leave_unsynced.ensures.unsynced ∙ d.long;
      fits = d.fits;
      counted = d.counted;
    }

pub returns-clause-bytes : goal.returns-clause-bytes
returns-clause-bytes c = same_bytes _ _ _ _ _ c.leave_unsynced.ensures.synced c.leave_unsynced.ensures.unsynced

pub returns-clause-crash : goal.returns-clause-crash
returns-clause-crash c =
    let d = c.args.self.now in
    let same = d.long ∙ d.agrees.size in
    λ k. rw (c.leave_unsynced.ensures.unsynced, c.leave_unsynced.ensures.synced) (λ f. (left_after d.platter.synced.items d.platter.unsynced.items c.args.from c.args.count same (omega (arith, same)) f, left_all d.platter.synced.items d.platter.unsynced.items c.args.from c.args.count same (omega (arith, same)) f))

pub returns-clause-time : goal.returns-clause-time
returns-clause-time c = elapses_to _ _ _ _ _ _ _ _ _ _ _ _ c.with.ensures
