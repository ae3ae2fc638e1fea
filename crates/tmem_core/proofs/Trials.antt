-- Values that are written and put back.
use Rattle.std.proofs.Common.{◌≡◌, ℕ, ◌<◌, ◌==◌, ◌||◌, ℤ, pos, Bool, true, false, List, [], ◌∷◌, length, map, get_or, slice_set, All, refl, sym, ap, ◌∙◌, subst, arith, length-set}
use Rattle.std.proofs.lemmas.Bool.{eqb-true, eqb-false}
use Rattle.std.proofs.lemmas.Bool.{or_parts}
use Rattle.std.proofs.lemmas.List.{get_or-set_other, get_or-set_same, ext_get_or}
use Rattle.std.proofs.lemmas.List.Elements.{All-head, All-map, All-tail}
use Rattle.tmem_effect.specs.State.{State, overwrite, written}
use Rattle.tmem_effect.proofs.Laws.{length-written}
use Rattle.tmem_invariants.specs.Meanings.{DifferInWritten, is_written, value_of}

-- the variables that are to be written, each with its value
abbrev pub olds_of : List ℤ → List (ℕ × ℤ) → List (ℕ × ℤ)
olds_of values ws = map (λ (w : ℕ × ℤ). (w.0, value_of values w.0)) ws

-- a variable that is not written keeps its value
kept : (values : List ℤ) (ws : List (ℕ × ℤ)) (var : ℕ) → is_written ws var ≡ false → get_or (written values ws) var (pos 0) ≡ get_or values var (pos 0)
kept values [] var none = refl
kept values (w ∷ ws) var none =
    let parts = or_parts (w.0 == var) (is_written ws var) none in
    kept (slice_set values w.0 w.1) ws var parts.1 ∙ get_or-set_other values w.0 var w.1 (pos 0) (λ same. eqb-false w.0 var parts.0 (sym same))

pub differ : (values : List ℤ) (ws : List (ℕ × ℤ)) → DifferInWritten ws values (written values ws)
differ values ws = record { others = kept values ws }

-- where values differ from the old ones in these variables alone, the old ones of these make up the rest
restored : (values : List ℤ) (ws : List (ℕ × ℤ)) (now : List ℤ) → length now ≡ length values → All (λ (w : ℕ × ℤ). w.0 < length values) ws →
    ((var : ℕ) → is_written ws var ≡ false → get_or now var (pos 0) ≡ get_or values var (pos 0)) → written now (olds_of values ws) ≡ values
restored values [] now long within others = ext_get_or (pos 0) now values long (λ k below. others k refl)
restored values (w ∷ ws) now long within others =
    let here : w.0 < length values = All-head (λ (v : ℕ × ℤ). v.0 < length values) w ws within in
    restored values ws (slice_set now w.0 old) (length-set now w.0 old ∙ long) (All-tail (λ (v : ℕ × ℤ). v.0 < length values) w ws within)
    (λ var none. on var (w.0 == var) refl here none)
  where
    old : ℤ
    old = value_of values w.0

    on : (var : ℕ) (b : Bool) → (w.0 == var) ≡ b → w.0 < length values → is_written ws var ≡ false → get_or (slice_set now w.0 old) var (pos 0) ≡ get_or values var (pos 0)
    on var true is here none =
        let same : w.0 ≡ var = eqb-true w.0 var is in
        subst (λ v. get_or (slice_set now w.0 old) v (pos 0) ≡ get_or values v (pos 0)) same (get_or-set_same now w.0 old (pos 0) (omega (arith, here, long)))
    on var false is here none =
        get_or-set_other now w.0 var old (pos 0) (λ same. eqb-false w.0 var is (sym same)) ∙ others var (ap (λ b. b || is_written ws var) is ∙ none)

-- so the values that were written over come back
pub put_back : (values : List ℤ) (ws : List (ℕ × ℤ)) → All (λ (w : ℕ × ℤ). w.0 < length values) ws → written (written values ws) (olds_of values ws) ≡ values
put_back values ws within = restored values ws (written values ws) (length-written values ws) within (kept values ws)

-- and a state is the old one
pub state_back : (s : State) (ws : List (ℕ × ℤ)) → All (λ (w : ℕ × ℤ). w.0 < length s.values) ws → overwrite (overwrite s ws) (olds_of s.values ws) ≡ s
state_back s ws within = ap (λ vs. record { count = s.count; names = s.names; values = vs }) (put_back s.values ws within)

-- they are over the same variables
pub olds_within : (values : List ℤ) (ws : List (ℕ × ℤ)) → All (λ (w : ℕ × ℤ). w.0 < length values) ws → All (λ (w : ℕ × ℤ). w.0 < length (written values ws)) (olds_of values ws)
olds_within values ws within =
    subst (λ (n : ℕ). All (λ (w : ℕ × ℤ). w.0 < n) (olds_of values ws)) (sym (length-written values ws))
    (All-map (λ (w : ℕ × ℤ). w.0 < length values) (λ (w : ℕ × ℤ). (w.0, value_of values w.0)) ws within)
