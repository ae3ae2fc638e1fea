use Rattle.tmem_state.proofs.BatchLaws.{IsBatch-filled}
use Rattle.tmem_state.proofs.batch.Batch.effects.Goals as goal

pub returns-clause-is_batch : goal.returns-clause-is_batch
returns-clause-is_batch c = rw (← c.self.view_is) (IsBatch-filled c.self.inside.records c.self.inside.used c.self.invariant c.effects.ensures.few c.effects.ensures.are_batched)
