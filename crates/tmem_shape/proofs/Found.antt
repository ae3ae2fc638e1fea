-- What stands at a key of an object.
use Rattle.std.proofs.Common.{◌≡◌, ℕ, List, Some, sym, ◌∙◌}
use Rattle.serde_json.specs.Data.{Data}
use Rattle.serde_json.specs.Find.{get}

-- one value at most stands there
pub one_there : (d v w : Data) (key : List ℕ) → get key d ≡ Some v → get key d ≡ Some w → v ≡ w
one_there d v w key first second = let same : Some v ≡ Some w = sym first ∙ second in cc
