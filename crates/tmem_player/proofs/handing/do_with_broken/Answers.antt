use Rattle.std.proofs.Common.{refl, false}
use borrow.Pointer.Called.{made_tells}
use Rattle.tmem_player.proofs.handing.do_with_broken.OwnLists.{own-1, at-1-1}
use Rattle.tmem_player.proofs.handing.do_with_broken.Goals as goal

pub one-requires-clause-stated : goal.one-requires-clause-stated
one-requires-clause-stated g c = ∣ ((λ values. false), λ values answer n post. made_tells own-1 (own-1.entry at-1-1) at-1-1 refl c.into_dyn_box.ensures.1 (values, tt) answer post) ∣₁
