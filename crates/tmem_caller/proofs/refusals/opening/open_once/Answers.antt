use Rattle.std.proofs.Common.{refl}
use borrow.Pointer.Called.{made_tells}
use Rattle.tmem_caller.proofs.refusals.opening.open_once.OwnLists.{own-1, at-1-1}
use Rattle.tmem_caller.proofs.refusals.opening.open_once.Goals as goal

pub open_with-requires-clause-stated : goal.open_with-requires-clause-stated
open_with-requires-clause-stated g c = λ values answer n post. made_tells own-1 (own-1.entry at-1-1) at-1-1 refl c.into_dyn_box.ensures.1 (values, tt) answer post
