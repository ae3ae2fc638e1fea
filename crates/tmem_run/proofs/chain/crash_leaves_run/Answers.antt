use Rattle.std.proofs.Common.{sym, subst, refl, inl, inr, ⊎_elim}
use Rattle.std.proofs.Math.Logic.{∥∥₁_map}
use Rattle.tmem_journal.specs.Calls.{FitsOn}
use Rattle.tmem_world.specs.WorldModel.{opening}
use Rattle.tmem_world.specs.Chain.{ChainHistory, IsSafe, IsStore, state_at, history_found}
use Rattle.tmem_run.specs.Builtin.{builtin_program, builtin_setting}
use Rattle.tmem_run.specs.Chains.{entry_events}
use Rattle.tmem_run.proofs.Stores.{runs_of}
use Rattle.tmem_run.proofs.chain.crash_leaves_run.Goals as goal

pub returns : goal.returns
returns g c = λ vars slots h entries text old new left run by synced keeps.
    let view = g.D.Disk.view in
    let program = builtin_program vars in
    let set = builtin_setting vars slots in
    let at = opening (state_at program vars h run.found) run.position (view old).failures in
    let store : (f : ChainHistory) → IsSafe program vars slots f (view left).seen → IsStore program vars slots f (view left) =
    λ f safe. record {
      fits = subst (FitsOn vars slots) (sym by.capacity) run.store.fits;
      device = record { each = λ k x may. subst (IsSafe program vars slots f) (sym (synced k x may)) safe };
    } in
    ⊎_elim
    (λ before. ∣ inl (store h before) ∣₁)
    (λ among. ∥∥₁_map among (λ it. inr (
      record { set = set; content = (view old).seen; found = run.found; position = run.position; failures = (view old).failures; events = entry_events it.first; replies = it.answers },
      it.first,
      it.point,
      it.reached,
      (it.rest, it.entries),
      refl,
      refl,
      (λ earlier chain. (
        h,
        chain,
        (refl, refl),
        record {
          safe = run.prefix;
          stands = run.stands;
          counted = (g.met.D.Disk.is_device old).failures_fit;
          run = runs_of set at (history_found run.found h) it.first it.answers it.early it.point it.reached it.before;
        },
      )),
      store it.reached it.safe,
    )))
    (run.any_moment.each (by.model keeps) (view left).seen (by.left keeps (view left).seen ((g.met.D.Disk.is_device left).seen_may_stay keeps)))
