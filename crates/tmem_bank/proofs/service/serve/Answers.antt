use denote.Param.Send.{sendable}
use Rattle.tmem_front.proofs.Laws.{front_sync}
use Rattle.tmem_bank.proofs.service.serve.Goals as goal

pub move_and_flush-requires-sync-F : goal.move_and_flush-requires-sync-F
move_and_flush-requires-sync-F g c κs within = search (sendable, front_sync, c.type_bounds) depth 12
