-- Laws of what effects make of a state.
use Rattle.std.proofs.Common.{◌≡◌, ◌≢◌, ℕ, ◌+◌, ◌<◌, ◌≤◌, ◌==◌, ℤ, Bool, true, false, cond, ◌||◌, ◌&&◌, not, All, List, [], ◌∷◌, ◌++◌, length, take, get_or, slice_set, Some, IsNone, refl, ap, sym, ◌∙◌, arith, length-set}
use Rattle.std.proofs.lemmas.Bool.Decides.{nat_tests}
use Rattle.std.proofs.lemmas.List.{take_more, get_or-set_other, get_or-set_same, set_comm, set-set}
use Rattle.tmem_fault.specs.Name.{IsName}
use Rattle.tmem_effect.specs.State.{State, Effect, apply, fold, written, variables, value_in, with_write, has_name, without_names, AreDistinct, AreAscending, AreRegistered}
use Rattle.tmem_effect.proofs.WritesLaws.{value_in-absent}
use Rattle.tmem_effect.proofs.NamesLaws.{AllPairs-head, AllPairs-tail, has_name-with_names, AreAscending-with_names, AreRegistered-with_names}
use Rattle.tmem_effect.proofs.NamesRemoved.{has_name-without_names, AreAscending-without_names, AreRegistered-without_names}

-- effects after effects
pub fold-append : (s : State) (es fs : List Effect) → fold s (es ++ fs) ≡ fold (fold s es) fs
fold-append s [] fs = refl
fold-append s (e ∷ es) fs = fold-append (apply s e) es fs

-- one effect more
pub fold-push : (s : State) (es : List Effect) (e : Effect) → fold s (es ++ e ∷ []) ≡ apply (fold s es) e
fold-push s es e = fold-append s es (e ∷ [])

-- each effect counts one
pub count-fold : (s : State) (es : List Effect) → (fold s es).count ≡ s.count + length es
count-fold s [] = omega arith
count-fold s (e ∷ es) = omega (arith, count-fold (apply s e) es)

-- writes set variables, and make none
pub length-written : (values : List ℤ) (ws : List (ℕ × ℤ)) → length (written values ws) ≡ length values
length-written values [] = refl
length-written values (w ∷ ws) = length-written (slice_set values w.0 w.1) ws ∙ length-set values w.0 w.1

pub length-values-apply : (s : State) (e : Effect) → length (apply s e).values ≡ length s.values
length-values-apply s e = length-written s.values e.writes

pub length-values-fold : (s : State) (es : List Effect) → length (fold s es).values ≡ length s.values
length-values-fold s [] = refl
length-values-fold s (e ∷ es) = length-values-fold (apply s e) es ∙ length-values-apply s e

-- writes after writes
pub written-append : (values : List ℤ) (ws vs : List (ℕ × ℤ)) → written values (ws ++ vs) ≡ written (written values ws) vs
written-append values [] vs = refl
written-append values (w ∷ ws) vs = written-append (slice_set values w.0 w.1) ws vs

-- a variable that is not written is not the first one, nor among the rest
value_in-parts : (w : ℕ × ℤ) (ws : List (ℕ × ℤ)) (var : ℕ) → IsNone (value_in (w ∷ ws) var) → (w.0 ≢ var) × IsNone (value_in ws var)
value_in-parts w ws var none = by (var == w.0) refl none
  where
    by : (b : Bool) → (var == w.0) ≡ b → IsNone (cond b (Some w.1) (value_in ws var)) → (w.0 ≢ var) × IsNone (value_in ws var)
    by true is h = cc
    by false is h = (λ same. differs same is, h)
      where
        differs : w.0 ≡ var → (var == w.0) ≡ false → ⊥
        differs same is' = grind (arith, nat_tests)

-- a variable that is not written keeps its value
pub written-other : (values : List ℤ) (ws : List (ℕ × ℤ)) (var : ℕ) (d : ℤ) → IsNone (value_in ws var) → get_or (written values ws) var d ≡ get_or values var d
written-other values [] var d none = refl
written-other values (w ∷ ws) var d none =
    let parts = value_in-parts w ws var none in
    written-other (slice_set values w.0 w.1) ws var d parts.1 ∙ get_or-set_other values w.0 var w.1 d (λ same. parts.0 (sym same))

-- a variable that is written once takes the value beside it
pub written-value_in : (values : List ℤ) (ws : List (ℕ × ℤ)) (var : ℕ) (value d : ℤ) → AreDistinct (variables ws) → var < length values →
    value_in ws var ≡ Some value → get_or (written values ws) var d ≡ value
written-value_in values [] var value d distinct within found = cc
written-value_in values (w ∷ ws) var value d distinct within found =
    by (var == w.0) refl found (λ h. written-value_in (slice_set values w.0 w.1) ws var value d (AllPairs-tail (λ x y. x ≢ y) w.0 (variables ws) distinct) (rw (length-set values w.0 w.1) within) h)
  where
    by : (b : Bool) → (var == w.0) ≡ b → cond b (Some w.1) (value_in ws var) ≡ Some value →
        (value_in ws var ≡ Some value → get_or (written (slice_set values w.0 w.1) ws) var d ≡ value) → get_or (written (slice_set values w.0 w.1) ws) var d ≡ value
    by true is h rest =
        let same : w.0 ≡ var = grind (arith, nat_tests) in
        let apart = value_in-absent ws w.0 (λ k e below. λ eq. AllPairs-head (λ x y. x ≢ y) w.0 (variables ws) distinct k e below (sym eq)) in
        let here : w.1 ≡ value = cc in
        rw (← same) (written-other (slice_set values w.0 w.1) ws w.0 d apart ∙ get_or-set_same values w.0 w.1 d (rw same within) ∙ here)
    by false is h rest = rest h

-- setting a variable that is not written may come first or last
written-set : (values : List ℤ) (ws : List (ℕ × ℤ)) (var : ℕ) (value : ℤ) → IsNone (value_in ws var) →
    written (slice_set values var value) ws ≡ slice_set (written values ws) var value
written-set values [] var value none = refl
written-set values (w ∷ ws) var value none =
    let parts = value_in-parts w ws var none in
    ap (λ vs. written vs ws) (set_comm values var w.0 value w.1 (λ same. parts.0 (sym same))) ∙ written-set (slice_set values w.0 w.1) ws var value parts.1

-- a write more sets its variable
pub written-with_write : (values : List ℤ) (ws : List (ℕ × ℤ)) (var : ℕ) (value : ℤ) → AreDistinct (variables ws) →
    written values (with_write ws var value) ≡ slice_set (written values ws) var value
written-with_write values [] var value distinct = refl
written-with_write values (w ∷ ws) var value distinct =
    by (var == w.0) refl (written-with_write (slice_set values w.0 w.1) ws var value (AllPairs-tail (λ x y. x ≢ y) w.0 (variables ws) distinct))
  where
    by : (b : Bool) → (var == w.0) ≡ b → written (slice_set values w.0 w.1) (with_write ws var value) ≡ slice_set (written (slice_set values w.0 w.1) ws) var value →
        written values (cond b ((var, value) ∷ ws) (w ∷ with_write ws var value)) ≡ slice_set (written (slice_set values w.0 w.1) ws) var value
    by true is rest =
        let same : w.0 ≡ var = grind (arith, nat_tests) in
        let apart = value_in-absent ws w.0 (λ k e below. λ eq. AllPairs-head (λ x y. x ≢ y) w.0 (variables ws) distinct k e below (sym eq)) in
        rw (← same) (ap (λ vs. written vs ws) (sym (set-set values w.0 w.1 value)) ∙ written-set (slice_set values w.0 w.1) ws w.0 value apart)
    by false is rest = rest

-- a name is registered after an effect where it is checked, or was registered and is not retired
pub has_name-apply : (s : State) (e : Effect) (name : List ℕ) → has_name (apply s e).names name ≡ (has_name e.names name || (not (has_name e.retired name) && has_name s.names name))
has_name-apply s e name = has_name-with_names (without_names s.names e.retired) e.names name ∙ ap (λ (b : Bool). has_name e.names name || b) (has_name-without_names s.names e.retired name)

pub AreRegistered-apply : (s : State) (e : Effect) → All IsName e.names → length (apply s e).names ≤ 64 → AreRegistered s.names → AreRegistered (apply s e).names
AreRegistered-apply s e names room are = AreRegistered-with_names (without_names s.names e.retired) e.names names room (AreRegistered-without_names s.names e.retired are)

pub AreAscending-apply : (s : State) (e : Effect) → AreAscending s.names → AreAscending (apply s e).names
AreAscending-apply s e up = AreAscending-with_names (without_names s.names e.retired) e.names (AreAscending-without_names s.names e.retired up)

pub AreAscending-names-fold : (s : State) (es : List Effect) → AreAscending s.names → AreAscending (fold s es).names
AreAscending-names-fold s [] up = up
AreAscending-names-fold s (e ∷ es) up = AreAscending-names-fold (apply s e) es (AreAscending-apply s e up)

-- one write more
pub written-next : (values : List ℤ) (ws : List (ℕ × ℤ)) (k : ℕ) (d : ℕ × ℤ) → k < length ws →
    written values (take (k + 1) ws) ≡ slice_set (written values (take k ws)) (get_or ws k d).0 (get_or ws k d).1
written-next values ws k d below = ap (λ vs. written values vs) (take_more ws k d below) ∙ written-append values (take k ws) (get_or ws k d ∷ [])
