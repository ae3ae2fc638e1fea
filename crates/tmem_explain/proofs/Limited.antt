-- What is said of limits, case by case.
use Rattle.std.proofs.Common.{◌≡◌, ◌<◌, ◌≤◌, ◌+◌, ℕ, zero, suc, Bool, false, IsTrue, List, [], ◌∷◌, ◌++◌, All, length, get_or, Option, Some, None, refl, sym, ap, ◌∙◌, subst, inl, inr, arith}
use Rattle.std.specs.Prelude.{◌⊎◌}
use Rattle.std.specs.List.{Contains}
use Rattle.std.proofs.lemmas.Bool.{false≢true}
use Rattle.std.proofs.lemmas.List.Elements.{All-append, All-cons, All-nil, All-head, All-weaker, Contains-append_left, Contains-append_right}
use Rattle.serde_json.specs.Data.{Data}
use Rattle.tmem_fault.specs.declared.fault.Cause.{Cause}
use Rattle.tmem_fault.specs.declared.fault.Cause.TheVariants.{TooDeep, TooManyNodes, TooManyWrites, TooManyChecks, BadRegister, BadVariable, BadStep, BadArguments, UnknownName, TooManyRetires}
use Rattle.tmem_record.specs.Layout.{IsLayout}
use Rattle.tmem_script.specs.Scripts.{IsScript}
use Rattle.tmem_script.specs.declared.script.ScriptEntry.{ScriptEntry}
use Rattle.tmem_tree.specs.declared.tx.Tx.{Tx}
use Rattle.tmem_explain.specs.Flaws.{IsFlawOf}
use Rattle.tmem_explain.specs.Limits.{HasFlaw, IsLimitFlaw, KeepsFlaws, KeepsLimits, MayHaveSlots, MayHaveVars, TellsLimits, TellsNumber, TellsSlots, TellsSomeLimit, TellsVars, begun_at, begun_by}
use Rattle.tmem_explain.specs.declared.flaw.Flaw.{Flaw}

-- a test does not give both answers
pub not_both : (b : Bool) → b ≡ false → IsTrue b → ⊥
not_both b is_false is_true = false≢true (sym is_false ∙ is_true)

-- what holds of all and of one more
pub all_and_one : {X : Type 0} (P : X → Type 0) (xs : List X) (x : X) → All P xs → P x → All P (xs ++ x ∷ [])
all_and_one P xs x all p = All-append P xs (x ∷ []) all (All-cons P x [] p (All-nil P))

-- the transaction that the entry at an index begins, and that none stands behind the last
pub begun_here : (es : List ScriptEntry) (i : ℕ) (e : ScriptEntry) → i < length es → e ≡ get_or es i e → begun_at es i ≡ begun_by e
begun_here [] i e within is = absurd (omega arith)
begun_here (x ∷ es) zero e within is = ap begun_by (sym is)
begun_here (x ∷ es) (suc i) e within is = begun_here es i e (omega arith) is

pub begun_past : (es : List ScriptEntry) (i : ℕ) → length es ≤ i → begun_at es i ≡ None
begun_past [] i past = refl
begun_past (x ∷ es) zero past = absurd (omega arith)
begun_past (x ∷ es) (suc i) past = begun_past es i (omega arith)

-- where a transaction stands, there is an entry
pub begun_within : (es : List ScriptEntry) (i : ℕ) (tx : Tx) → begun_at es i ≡ Some tx → i < length es
begun_within [] i tx is = cc
begun_within (x ∷ es) zero tx is = omega arith
begun_within (x ∷ es) (suc i) tx is =
    let below = begun_within es i tx is in
    omega (arith, below)

-- none is no transaction
pub none_begun : (o : Option Tx) (tx : Tx) → o ≡ None → o ≡ Some tx → ⊥
none_begun (Some x) tx none some = cc
none_begun None tx none some = cc

-- of two that are begun there both are the same
abbrev from_some : Tx → Option Tx → Tx
from_some other None = other
from_some other (Some tx) = tx

pub same_begun : (o : Option Tx) (a b : Tx) → o ≡ Some a → o ≡ Some b → b ≡ a
same_begun o a b first second = ap (from_some a) (sym second ∙ first)

-- what is told stays told
pub still_told : (P : Flaw → Type 0) (some all : List Flaw) → KeepsFlaws some all → HasFlaw P some → HasFlaw P all
still_told P some all among has = (has.0, among has.0 has.1, has.2)

pub numbers_kept : (A : Type 0) (P : Flaw → Type 0) (some all : List Flaw) → KeepsFlaws some all → A ⊎ HasFlaw P some → A ⊎ HasFlaw P all
numbers_kept A P some all among (inl a) = inl a
numbers_kept A P some all among (inr has) = inr (still_told P some all among has)

-- what holds of none
pub none_yet : (P : Flaw → Type 0) (flaws : List Flaw) → flaws ≡ [] → All P flaws
none_yet P flaws none = subst (λ fs. All P fs) (sym none) (All-nil P)

-- a flaw more
pub among_more : (old new : List Flaw) (flaw : Flaw) → new ≡ old ++ flaw ∷ [] → KeepsFlaws old new
among_more old new flaw is = λ other there. subst (λ fs. Contains fs other) (sym is) (Contains-append_left old (flaw ∷ []) other there)

pub told_last : (P : Flaw → Type 0) (old new : List Flaw) (flaw : Flaw) → new ≡ old ++ flaw ∷ [] → P flaw → HasFlaw P new
told_last P old new flaw is so =
    (flaw, subst (λ fs. Contains fs flaw) (sym is) (Contains-append_right old (flaw ∷ []) flaw (0, omega arith, refl)), so)

pub only_more : (P : Flaw → Type 0) (old new : List Flaw) (flaw : Flaw) → new ≡ old ++ flaw ∷ [] → P flaw → All P old → All P new
only_more P old new flaw is so all = subst (λ fs. All P fs) (sym is) (all_and_one P old flaw all so)

-- each is true of the script
pub all_told : (vars slots : ℕ) (entries : List ScriptEntry) (flaws : List Flaw) → All (IsLimitFlaw vars slots entries) flaws → (d : Data) → IsScript vars slots entries d → All (IsFlawOf d) flaws
all_told vars slots entries flaws all = λ d is. All-weaker (IsLimitFlaw vars slots entries) (IsFlawOf d) (λ flaw so. so.told d is) flaws all

-- nothing is told of a script that keeps the limits
pub none_told : (vars slots : ℕ) (entries : List ScriptEntry) (flaws : List Flaw) → All (IsLimitFlaw vars slots entries) flaws → KeepsLimits vars slots entries → flaws ≡ []
none_told vars slots entries [] all keeps = refl
none_told vars slots entries (flaw ∷ flaws) all keeps = absurd (by (All-head (IsLimitFlaw vars slots entries) flaw flaws all))
  where
    by : IsLimitFlaw vars slots entries flaw → ⊥
    by so = of so.broken
      where
        of : (¬ IsLayout vars slots × TellsNumber flaw) ⊎ TellsSomeLimit vars entries flaw → ⊥
        of (inl numbers) = numbers.0 keeps.0
        of (inr (i, tx, cause, begun, breaks, tells)) = keeps.1 i tx cause begun breaks

-- what holds of each cause
pub each_cause : (P : Cause → Type 0) → P TooDeep → P TooManyNodes → P TooManyWrites → P TooManyChecks → P BadRegister → P BadVariable → P BadStep → P BadArguments → P UnknownName → P TooManyRetires → (cause : Cause) → P cause
each_cause P a b c d e f g h i j TooDeep = a
each_cause P a b c d e f g h i j TooManyNodes = b
each_cause P a b c d e f g h i j TooManyWrites = c
each_cause P a b c d e f g h i j TooManyChecks = d
each_cause P a b c d e f g h i j BadRegister = e
each_cause P a b c d e f g h i j BadVariable = f
each_cause P a b c d e f g h i j BadStep = g
each_cause P a b c d e f g h i j BadArguments = h
each_cause P a b c d e f g h i j UnknownName = i
each_cause P a b c d e f g h i j TooManyRetires = j

-- what holds below a number and of it holds up to it
pub each_more : (P : ℕ → Type 0) (k : ℕ) → ((i : ℕ) → i < k → P i) → P k → (i : ℕ) → i < k + 1 → P i
each_more P k before at i below = by (below_or_at i k below)
  where
    below_or_at : (i k : ℕ) → i < k + 1 → (i < k) ⊎ (i ≡ k)
    below_or_at zero zero lt = inr refl
    below_or_at zero (suc k) lt = inl (omega arith)
    below_or_at (suc i) zero lt = absurd (omega arith)
    below_or_at (suc i) (suc k) lt = next (below_or_at i k (omega arith))
      where
        next : (i < k) ⊎ (i ≡ k) → (suc i < suc k) ⊎ (suc i ≡ suc k)
        next (inl l) = inl (omega arith)
        next (inr e) = inr (ap suc e)

    by : (i < k) ⊎ (i ≡ k) → P i
    by (inl l) = before i l
    by (inr e) = subst P (sym e) at

-- in none there is none
pub none_there : (P : Flaw → Type 0) (flaws : List Flaw) → flaws ≡ [] → HasFlaw P flaws → ⊥
none_there P [] none has = absurd (omega (arith, has.1.1))
none_there P (flaw ∷ flaws) none has = cc

-- where nothing is told, the limits are kept
pub keeps_all : (vars slots : ℕ) (entries : List ScriptEntry) (flaws : List Flaw) → TellsLimits vars slots entries flaws → flaws ≡ [] → KeepsLimits vars slots entries
keeps_all vars slots entries flaws tells none =
    let v = kept (MayHaveVars vars) TellsVars tells.of_vars in
    let s = kept (MayHaveSlots slots) TellsSlots tells.of_slots in
    (record { some_vars = v.0; vars_fit = v.1; some_slots = s.0; slots_fit = s.1 }, λ i tx cause begun breaks. none_there _ flaws none (tells.each i tx cause begun breaks))
  where
    kept : (A : Type 0) (P : Flaw → Type 0) → A ⊎ HasFlaw P flaws → A
    kept A P (inl a) = a
    kept A P (inr has) = absurd (none_there P flaws none has)
