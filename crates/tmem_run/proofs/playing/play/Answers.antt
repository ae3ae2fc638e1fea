use Rattle.std.proofs.Common.{refl}
use borrow.Pointer.Called.{made_asks, made_tells}
use Rattle.tmem_run.proofs.playing.play.OwnLists.{own-1, at-1-1, at-1-2, at-1-3}
use Rattle.tmem_run.proofs.playing.play.Goals as goal

pub table_of-requires-clause-nonneg_callable : goal.table_of-requires-clause-nonneg_callable
table_of-requires-clause-nonneg_callable g c = λ values n. made_asks own-1 (own-1.entry at-1-1) at-1-1 refl c.into_dyn_box.ensures.1 (values, tt) n

pub table_of-requires-clause-sum_callable : goal.table_of-requires-clause-sum_callable
table_of-requires-clause-sum_callable g c = λ values n. made_asks own-1 (own-1.entry at-1-2) at-1-2 refl c.into_dyn_box-2.ensures.1 (values, tt) n

pub table_of-requires-clause-ordered_callable : goal.table_of-requires-clause-ordered_callable
table_of-requires-clause-ordered_callable g c = λ values n. made_asks own-1 (own-1.entry at-1-3) at-1-3 refl c.into_dyn_box-3.ensures.1 (values, tt) n

pub table_of-requires-clause-nonneg_stated : goal.table_of-requires-clause-nonneg_stated
table_of-requires-clause-nonneg_stated g c = λ values answer n post. made_tells own-1 (own-1.entry at-1-1) at-1-1 refl c.into_dyn_box.ensures.1 (values, tt) answer post

pub table_of-requires-clause-sum_stated : goal.table_of-requires-clause-sum_stated
table_of-requires-clause-sum_stated g c = λ values answer n post. made_tells own-1 (own-1.entry at-1-2) at-1-2 refl c.into_dyn_box-2.ensures.1 (values, tt) answer post

pub table_of-requires-clause-ordered_stated : goal.table_of-requires-clause-ordered_stated
table_of-requires-clause-ordered_stated g c = λ values answer n post. made_tells own-1 (own-1.entry at-1-3) at-1-3 refl c.into_dyn_box-3.ensures.1 (values, tt) answer post
