-- What a plan reads is there.
use Rattle.std.proofs.Common.{◌≡◌, ℕ, ◌<◌, Bool, true, false, nat_le, refl, subst, arith}
use Rattle.std.proofs.lemmas.Bool.Decides.{nat_tests}
use Rattle.tmem_tree.specs.declared.tx.Tx.TheVariants.{Read}
use Rattle.tmem_tree.specs.Limits.{one_if, count, has_bad_variable}
use Rattle.tmem_tree.specs.Plans.{PlanView, FitsVariables}

none_is : (b : Bool) → one_if b ≡ 0 → b ≡ false
none_is false h = refl
none_is true h = cc

within : (vars var : ℕ) → one_if (nat_le vars var) ≡ 0 → var < vars
within vars var h = let no : nat_le vars var ≡ false = none_is _ h in grind (arith, nat_tests)

-- a plan of one read is for more variables than the one that it reads
pub is_there : (vars len var reg : ℕ) (plan : PlanView) → plan.tree ≡ Read var reg → FitsVariables vars plan → vars ≡ len → var < len
is_there vars len var reg plan e h same = subst (λ n. var < n) same (within vars var (subst (λ t. count (has_bad_variable vars) t ≡ 0) e h.named))
