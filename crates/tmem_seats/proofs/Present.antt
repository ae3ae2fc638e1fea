-- Values that are present, as an evaluation under the lock is given them.
use Rattle.std.proofs.Common.{◌≡◌, ◌≢◌, ◌-◌, ◌==◌, ℕ, zero, suc, ℤ, pos, Bool, true, false, not, ◌||◌, if◌then◌else◌, List, [], ◌∷◌, Option, Some, None, Result, Ok, Err, nat_eq, refl, sym, ap, ◌∙◌, subst}
use Rattle.std.specs.Prelude.{slice_get, slice_index_or}
use Rattle.std.specs.Ordering.{int_eq}
use Rattle.std.proofs.lemmas.Bool.{eqb-true}
use Rattle.std.proofs.lemmas.Bool.Decides.{Decides-int_eq}
use Rattle.indexmap.specs.IndexMap.{insert_entry}
use Rattle.tmem_fault.specs.declared.fault.Fault.{Fault}
use Rattle.tmem_fault.specs.declared.fault.Fault.TheVariants as fault
use Rattle.tmem_effect.specs.State.{State, is_empty}
use Rattle.tmem_effect.specs.declared.effect.Effect.{Effect}
use Rattle.tmem_tree.specs.declared.settled.Settled.{Settled}
use Rattle.tmem_tree.specs.declared.settled.Settled.TheVariants.{Committed, Seen}
use Rattle.tmem_tentative.specs.declared.attempt.Attempt.{Attempt}
use Rattle.tmem_tentative.specs.declared.attempt.Ending.{Ending}
use Rattle.tmem_tentative.specs.declared.attempt.Ending.TheVariants as ended
use Rattle.tmem_core.specs.Program.{Program}
use Rattle.tmem_core.specs.SettleAnswer.{has_changed, sound_answer, unless_refused, ending_answer, settle_answer}
use Rattle.tmem_core.specs.Verdict.{map_of, first_broken}

value_of : (values : List ℤ) (var : ℕ) (n : ℤ) → slice_get values var ≡ Some n → slice_index_or values var (pos 0) ≡ n
value_of [] var n is = cc
value_of (v ∷ vs) zero n is = cc
value_of (v ∷ vs) (suc var) n is = value_of vs var n is

-- a value that is there is not stale
there : (s : State) (var : ℕ) (n : ℤ) (rest : Bool) → slice_get s.values var ≡ Some n → rest ≡ false → (not (int_eq (map_of s var) n) || rest) ≡ false
there s var n rest is fresh = ap (λ b. not b || rest) ((Decides-int_eq (map_of s var) n).1 (value_of s.values var n is)) ∙ fresh

-- one present value more
pub present_more : (s : State) (reads : List (ℕ × ℤ)) (var : ℕ) (n : ℤ) → has_changed s reads ≡ false → slice_get s.values var ≡ Some n → has_changed s (insert_entry nat_eq reads var n) ≡ false
present_more s [] var n fresh is = there s var n false is refl
present_more s (r ∷ rs) var n fresh is = on (nat_eq var r.0) refl (apart (int_eq (map_of s r.0) r.1) fresh) (λ rest. present_more s rs var n rest is)
  where
    apart : (b : Bool) → (not b || has_changed s rs) ≡ false → (b ≡ true) × (has_changed s rs ≡ false)
    apart true h = (refl, h)
    apart false h = cc

    on : (b : Bool) → nat_eq var r.0 ≡ b → (int_eq (map_of s r.0) r.1 ≡ true) × (has_changed s rs ≡ false) → (has_changed s rs ≡ false → has_changed s (insert_entry nat_eq rs var n) ≡ false)
        → has_changed s (if b then (r.0, n) ∷ rs else r ∷ insert_entry nat_eq rs var n) ≡ false
    on true e parts more = there s r.0 n (has_changed s rs) (subst (λ k. slice_get s.values k ≡ Some n) (eqb-true var r.0 e) is) parts.1
    on false e parts more = ap (λ b. not b || has_changed s (insert_entry nat_eq rs var n)) parts.0 ∙ more parts.1

empty_or_not : (empty full spent : Bool) (a b : Settled) → (if empty then Ok a else if full then Err fault.Full else if spent then Err fault.Spent else Ok b) ≢ Err fault.Conflict
empty_or_not true full spent a b = λ is. cc
empty_or_not false true spent a b = λ is. cc
empty_or_not false false true a b = λ is. cc
empty_or_not false false false a b = λ is. cc

kept_or_not : (broken : Option (List ℕ)) (answer : Result Settled Fault) → answer ≢ Err fault.Conflict → unless_refused broken answer ≢ Err fault.Conflict
kept_or_not (Some name) answer = λ no is. cc
kept_or_not None answer = λ no. no

ending_no_conflict : (p : Program) (end : Ending) (s : State) (durable : ℕ) (e : Effect) (registers : List ℤ) → ending_answer p end s durable e registers ≢ Err fault.Conflict
ending_no_conflict p ended.Normal s durable e registers =
    kept_or_not (first_broken p s e) (sound_answer s durable e registers) (empty_or_not (is_empty e) (s.count - durable == 256) (s.count == 18446744073709551615) (Seen s.count registers) (Committed s.count registers))
ending_no_conflict p ended.Retry s durable e registers = λ is. cc
ending_no_conflict p (ended.Abort code) s durable e registers = λ is. cc
ending_no_conflict p (ended.Broken name) s durable e registers = λ is. cc

-- an attempt on present values is told no conflict
pub no_conflict : (p : Program) (shut : Bool) (s : State) (durable : ℕ) (a : Attempt) → has_changed s a.reads.entries ≡ false → settle_answer p shut s durable a ≢ Err fault.Conflict
no_conflict p true s durable a fresh = λ is. cc
no_conflict p false s durable a fresh = subst (λ b. (if b then Err fault.Conflict else ending_answer p a.ending s durable a.effect a.registers) ≢ Err fault.Conflict) (sym fresh) (ending_no_conflict p a.ending s durable a.effect a.registers)
