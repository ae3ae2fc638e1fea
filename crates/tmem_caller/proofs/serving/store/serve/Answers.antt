use Rattle.std.proofs.Common.{refl}
use borrow.Pointer.Called.{made_tells}
use Rattle.tmem_caller.proofs.serving.store.serve.OwnLists.{own-1, at-1-1}
use Rattle.tmem_caller.proofs.serving.store.serve.Goals as goal

pub serve_under-requires-clause-stated : goal.serve_under-requires-clause-stated
serve_under-requires-clause-stated g c = λ values answer n post. made_tells own-1 (own-1.entry at-1-1) at-1-1 refl c.into_dyn_box.ensures.1 (values, tt) answer post
