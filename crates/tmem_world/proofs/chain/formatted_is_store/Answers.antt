use Rattle.tmem_world.proofs.Chains.{fresh_safe}
use Rattle.tmem_world.proofs.chain.formatted_is_store.Goals as goal

pub returns : goal.returns
returns g c = λ program vars slots used disk fits leaves. record {
  fits = fits;
  device = record { each = λ k x left. fresh_safe program vars slots used x (leaves.each k x left) };
}
