use Rattle.tmem_redolog.proofs.Replaying.{head_number}
use Rattle.tmem_redolog.proofs.replay.generation_in.Goals as goal

pub returns-clause-stands : goal.returns-clause-stands
returns-clause-stands c = head_number c.args.slot.now c.copy_from_slice.new.self _ c.read_head.result.0 c.copy_from_slice.ensures.after c.read_head.ensures
