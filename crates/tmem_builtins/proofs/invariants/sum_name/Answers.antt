use Rattle.std.proofs.Common.{refl, lit≤}
use Rattle.tmem_builtins.proofs.Named.{IsName-from_test}
use Rattle.tmem_builtins.proofs.invariants.sum_name.Goals as goal

pub unwrap-requires : goal.unwrap-requires
unwrap-requires c = c.new.ensures.valid.1 (IsName-from_test _ (lit≤ tt) (lit≤ tt) refl)
