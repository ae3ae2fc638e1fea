use Rattle.tmem_player.proofs.handing.one.Goals as goal

pub new-requires-2-clause-stated : goal.new-requires-2-clause-stated
new-requires-2-clause-stated g c = rw c.in_ok-vec.ensures.items c.requires.stated
