use denote.Param.Send.{sendable}
use Rattle.tmem_front.proofs.Laws.{front_sync}
use Rattle.tmem_bench.proofs.store.with_front.Goals as goal

pub serve-requires-sync-F : goal.serve-requires-sync-F
serve-requires-sync-F g c κs within = search (sendable, front_sync, c.type_bounds) depth 12
