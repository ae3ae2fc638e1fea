use Rattle.std.proofs.Common.{sym, subst, inl, inr, ⊎_elim}
use Rattle.std.proofs.Math.Logic.{∥∥₁_map}
use Rattle.tmem_journal.specs.Calls.{FitsOn}
use Rattle.tmem_world.specs.Chain.{ChainHistory, IsSafe, IsStore}
use Rattle.tmem_world.proofs.Laws.{grows}
use Rattle.tmem_world.proofs.chain.crash_leaves_store.Goals as goal

pub returns : goal.returns
returns g c = record {
  between = λ program vars slots h disk left store by. record {
    fits = subst (FitsOn vars slots) (sym by.capacity) store.fits;
    device = record { each = λ k x may. store.device.each (by.model k) x ((g.met.D.Disk.is_device disk).only_now x (by.model k) (by.left k x may)) };
  };
  within_opening = λ program vars slots h old new left fits during by. record {
    fits = subst (FitsOn vars slots) (sym by.capacity) fits;
    device = record { each = λ k x may. during.each (by.model k) x (by.left k x may) };
  };
  within_event = λ program vars slots h h' old new left fits during by synced keeps.
      let view = g.D.Disk.view in
      let store : (f : ChainHistory) → IsSafe program vars slots f (view left).seen → IsStore program vars slots f (view left) =
      λ f safe. record {
        fits = subst (FitsOn vars slots) (sym by.capacity) fits;
        device = record { each = λ k x may. subst (IsSafe program vars slots f) (sym (synced k x may)) safe };
      } in
      ∥∥₁_map (during.each (by.model keeps) (view left).seen (by.left keeps (view left).seen ((g.met.D.Disk.is_device left).seen_may_stay keeps)))
      (⊎_elim (λ before. inl (store h before)) (λ after. inr (store h' after)));
  within_events = λ set m h es rs m' h' old new left fits during by synced keeps.
      let view = g.D.Disk.view in
      ∥∥₁_map (during.each (by.model keeps) (view left).seen (by.left keeps (view left).seen ((g.met.D.Disk.is_device left).seen_may_stay keeps))) (λ so. (
        so.first,
        so.answers,
        so.point,
        so.reached,
        (so.rest, so.events),
        (so.later, so.replies),
        grows set m h so.first so.answers so.point so.reached so.before,
        record {
          fits = subst (FitsOn set.vars set.slots) (sym by.capacity) fits;
          device = record { each = λ k x may. subst (IsSafe set.program set.vars set.slots so.reached) (sym (synced k x may)) so.safe };
        },
      ));
}
