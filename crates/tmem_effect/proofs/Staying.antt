-- Laws of states that stay within the limits.
use Rattle.std.proofs.Common.{ℕ, suc, ◌≤◌, List, [], ◌∷◌, ◌++◌, length, take, drop, sym, subst, arith}
use Rattle.std.proofs.lemmas.List.{take-append-drop}
use Rattle.tmem_effect.specs.Prefix.{IsPrefix}
use Rattle.tmem_effect.specs.State.{State, Effect, apply, fold, IsWithin, StaysWithin}
use Rattle.tmem_effect.proofs.PrefixLaws.{IsPrefix-rest}

-- the state itself is within the limits, and so is the one after all effects
pub StaysWithin-first : (s : State) (es : List Effect) → StaysWithin s es → IsWithin s
StaysWithin-first s [] stays = stays
StaysWithin-first s (e ∷ es) stays = stays.0

pub StaysWithin-last : (s : State) (es : List Effect) → StaysWithin s es → IsWithin (fold s es)
StaysWithin-last s [] stays = stays
StaysWithin-last s (e ∷ es) stays = StaysWithin-last (apply s e) es stays.1

-- effects and then others
pub StaysWithin-append : (s : State) (es fs : List Effect) → StaysWithin s es → StaysWithin (fold s es) fs → StaysWithin s (es ++ fs)
StaysWithin-append s [] fs first second = second
StaysWithin-append s (e ∷ es) fs first second = (first.0, StaysWithin-append (apply s e) es fs first.1 second)

pub StaysWithin-front : (s : State) (es fs : List Effect) → StaysWithin s (es ++ fs) → StaysWithin s es
StaysWithin-front s [] fs stays = StaysWithin-first s fs stays
StaysWithin-front s (e ∷ es) fs stays = (stays.0, StaysWithin-front (apply s e) es fs stays.1)

pub StaysWithin-back : (s : State) (es fs : List Effect) → StaysWithin s (es ++ fs) → StaysWithin (fold s es) fs
StaysWithin-back s [] fs stays = stays
StaysWithin-back s (e ∷ es) fs stays = StaysWithin-back (apply s e) es fs stays.1

-- one effect more
pub StaysWithin-push : (s : State) (es : List Effect) (e : Effect) → StaysWithin s es → IsWithin (apply (fold s es) e) → StaysWithin s (es ++ e ∷ [])
StaysWithin-push s es e stays next = StaysWithin-append s es (e ∷ []) stays (StaysWithin-last s es stays, next)

-- the first effects, and those behind them
pub StaysWithin-take : (s : State) (es : List Effect) (k : ℕ) → StaysWithin s es → StaysWithin s (take k es)
StaysWithin-take s es k stays = StaysWithin-front s (take k es) (drop k es) (subst (λ l. StaysWithin s l) (sym (take-append-drop k es)) stays)

pub StaysWithin-drop : (s : State) (es : List Effect) (k : ℕ) → StaysWithin s es → StaysWithin (fold s (take k es)) (drop k es)
StaysWithin-drop s es k stays = StaysWithin-back s (take k es) (drop k es) (subst (λ l. StaysWithin s l) (sym (take-append-drop k es)) stays)

pub StaysWithin-prefix : (s : State) (es fs : List Effect) → IsPrefix es fs → StaysWithin s fs → StaysWithin s es
StaysWithin-prefix s es fs begins stays = StaysWithin-front s es (drop (length es) fs) (subst (λ l. StaysWithin s l) (IsPrefix-rest es fs begins) stays)

-- the state after the first effects is within the limits; and where each of these is, the states stay within them
pub StaysWithin-at : (s : State) (es : List Effect) (k : ℕ) → StaysWithin s es → IsWithin (fold s (take k es))
StaysWithin-at s es k stays = StaysWithin-last s (take k es) (StaysWithin-take s es k stays)

pub StaysWithin-each : (s : State) (es : List Effect) → ((k : ℕ) → k ≤ length es → IsWithin (fold s (take k es))) → StaysWithin s es
StaysWithin-each s [] each = each 0 (omega arith)
StaysWithin-each s (e ∷ es) each = (each 0 (omega arith), StaysWithin-each (apply s e) es (λ k le. each (suc k) (omega arith)))
