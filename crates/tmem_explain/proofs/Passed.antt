-- What an error that is passed on promises.
use Rattle.std.proofs.Common.{◌≡◌, Result, Ok, Err, OnOk}
use Rattle.std.specs.Result.{IsErrAnd}

-- of a value, nothing
pub no_value : {X E : Type 0} (P : Type 0) (r : Result X E) (e : E) → IsErrAnd r (λ y. y ≡ e) → OnOk r P
no_value P (Ok x) e same = absurd same
no_value P (Err y) e same = tt
