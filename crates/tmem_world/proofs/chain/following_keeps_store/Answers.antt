use Rattle.std.proofs.Math.Logic.{∥∥₁_map}
use Rattle.tmem_world.proofs.Prefixes.{safe_following}
use Rattle.tmem_world.proofs.chain.following_keeps_store.Goals as goal

pub returns : goal.returns
returns g c = λ old new vars slots h disk follows store. record {
  fits = store.fits;
  device = record { each = λ k x left. ∥∥₁_map (store.device.each k x left) (safe_following old new vars slots h follows x) };
}
