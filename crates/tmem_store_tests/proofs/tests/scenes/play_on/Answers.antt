use denote.Param.Send.{sendable}
use Rattle.tmem_front.proofs.Laws.{front_sync}
use Rattle.tmem_store_tests.proofs.tests.scenes.play_on.Goals as goal

pub play_whole_scene-requires-sync-F : goal.play_whole_scene-requires-sync-F
play_whole_scene-requires-sync-F g c κs within = search (sendable, front_sync, c.type_bounds) depth 12
