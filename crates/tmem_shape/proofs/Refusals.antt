-- Errors that are passed on.
use Rattle.std.proofs.Common.{◌≡◌, Result, Ok, Err, IfOk, IfErr, sym, subst}
use Rattle.std.specs.Result.{IsErrAnd}
use Rattle.tmem_shape.specs.Errors.{RefusesText}
use Rattle.tmem_shape.specs.declared.error.ShapeError.{ShapeError}
use Rattle.tmem_shape.specs.declared.error.ShapeError.TheVariants.{Memory, NoShape}

refuses_more : (P Q : Type 0) (e : ShapeError) → RefusesText e P → (P → Q) → RefusesText e Q
refuses_more P Q (Memory a) refused more = tt
refuses_more P Q (NoShape why at) refused more = more refused

pub passed_on : {X : Type 0} (P Q : Type 0) (r : Result X ShapeError) (e : ShapeError) → IsErrAnd r (λ y. y ≡ e) → RefusesText e P → (P → Q) → IfErr r (λ y. RefusesText y Q)
passed_on P Q (Ok x) e same refused more = tt
passed_on P Q (Err y) e same refused more = subst (λ d. RefusesText d Q) (sym same) (refuses_more P Q e refused more)

-- a refusal is no value
pub no_value : {X E : Type 0} (P : X → Type 0) (Q : E → Type 0) (r : Result X E) → IsErrAnd r Q → IfOk r P
no_value P Q (Ok x) refused = absurd refused
no_value P Q (Err e) refused = tt
