use Rattle.std.proofs.Common.{List, ℕ, sym, subst, arith}
use Rattle.tmem_disk.specs.SimParts.{sim_view, sim_is_device}
use Rattle.tmem_world_tests.proofs.tests.crashes.start_again.Goals as goal

pub returns : goal.returns
returns c = λ program vars slots h store.
    let disk = c.args.disk.now in
    let old = sim_view disk in
    let new = sim_view c.restart.new.self in
    c.crash_leaves_store.ensures.between program vars slots h disk c.restart.new.self store (record {
      capacity = c.restart.ensures.capacity;
      model = λ k. tt;
      left = λ k x may. subst (λ (y : List ℕ). old.left_since old.moment y) (sym (c.restart.ensures.durable k x may)) ((sim_is_device disk).counts_now old.moment new.seen tt (omega arith) c.restart.ensures.left);
    })
