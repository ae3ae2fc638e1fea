use Rattle.std.proofs.Common.{rules, ◌≡◌, ◌<◌, ℕ, suc, ◌+◌, List, Vec, Global, length, take, set, ◌∙◌, ap, arith}
use Rattle.tmem_disk.specs.Sim.{stamped}
use Rattle.tmem_disk.proofs.Fills.{stamp_unsynced, stamp_synced}
use Rattle.tmem_disk.proofs.sim.stamp.Goals as goal
use Rattle.tmem_disk.proofs.sim.stamp.Goals.{then-unsynced-i, else-unsynced-i}

pub loop-i-preserved : goal.loop-i-preserved
loop-i-preserved c =
    let i = c.loop-i.i in
    let unsynced = c.args.unsynced.now in
    let start = c.args.present.now.items in
    let within : i < length start = omega arith in
    let more : suc i ≡ i + 1 = omega arith in
    let next = ap (λ (n : ℕ). stamped c.args.byte start (take n unsynced)) more in
    elim c.if-unsynced-i.branch [
      | then-unsynced-i w ↦
          let items = ap (λ (v : Vec ℕ Global). v.items) w.present-is in
          record {
            long = rw w.present-is (search rules);
            so_far = items ∙ ap (λ (l : List ℕ). set l i c.args.byte) c.loop-i.invariant.so_far ∙ stamp_unsynced c.args.byte start unsynced i c.loop-i-test.true within w.if-unsynced-i.true ∙ next;
          }
      | else-unsynced-i w ↦
          let items = ap (λ (v : Vec ℕ Global). v.items) w.present-is in
          record {
            long = rw w.present-is c.loop-i.invariant.long;
            so_far = items ∙ c.loop-i.invariant.so_far ∙ stamp_synced c.args.byte start unsynced i c.loop-i-test.true within w.if-unsynced-i.false ∙ next;
          }
    ]
