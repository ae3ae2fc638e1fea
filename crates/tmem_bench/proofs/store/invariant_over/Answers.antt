use Rattle.tmem_bench.proofs.store.invariant_over.Goals as goal

pub new-requires-2-clause-stated : goal.new-requires-2-clause-stated
new-requires-2-clause-stated g c = rw c.in_ok-footprint.ensures.items c.requires.stated
