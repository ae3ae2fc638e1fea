use Rattle.tmem_caller.proofs.refusals.without.call_on_test.Goals as goal

pub new-requires-2-clause-stated : goal.new-requires-2-clause-stated
new-requires-2-clause-stated g c = rw c.requires.footprint c.requires.stated
