-- What a Read and a Check see, by what is seen of one variable.
use Rattle.std.proofs.Common.{◌≡◌, ℕ, ℤ, List, [], ◌∷◌, ◌++◌, Option, Some, None, refl, sym, ap, ◌∙◌, append_assoc}
use Rattle.tmem_effect.specs.Writes.{value_in}
use Rattle.tmem_tree.specs.Visited.{Visit}
use Rattle.tmem_tentative.specs.Eval.{RunState, Flow, Goes, Stops, FootprintSeen, Lacks, Found, eval_put, read, seen_of, noted_of, before, see_first, footprint_seen}

-- a Read, where this value is seen
abbrev pub read_on : Option ℤ → RunState → ℕ → ℕ → Flow
read_on (Some n) s var reg = Goes (eval_put s reg n)
read_on None s var reg = Stops (Visit var)

pub read_on_seen : (own value : Option ℤ) (s : RunState) (var reg : ℕ) → read own value s var reg ≡ read_on (seen_of own value) (noted_of own value s var) var reg
read_on_seen (Some n) value s var reg = refl
read_on_seen None (Some n) s var reg = refl
read_on_seen None None s var reg = refl

-- what is seen of one variable, and then of the rest
abbrev value_on : Option ℤ → RunState → ℕ → (RunState → FootprintSeen) → FootprintSeen
value_on (Some n) s var rest = before n (rest s)
value_on None s var rest = Lacks var

value_on_seen : (own value : Option ℤ) (s : RunState) (var : ℕ) (rest : RunState → FootprintSeen) → see_first own value s var rest ≡ value_on (seen_of own value) (noted_of own value s var) var rest
value_on_seen (Some n) value s var rest = refl
value_on_seen None (Some n) s var rest = refl
value_on_seen None None s var rest = refl

-- with these values before the others
abbrev pub ahead : List ℤ → FootprintSeen → FootprintSeen
ahead values (Lacks var) = Lacks var
ahead values (Found more s) = Found (values ++ more) s

ahead-before : (values : List ℤ) (n : ℤ) (l : FootprintSeen) → ahead values (before n l) ≡ ahead (values ++ n ∷ []) l
ahead-before values n (Lacks var) = refl
ahead-before values n (Found more s) = ap (λ vs. Found vs s) (sym (append_assoc values (n ∷ []) more))

-- one more that is seen
pub ahead_seen : (reads : List (ℕ × ℤ)) (var : ℕ) (vars : List ℕ) (s s' : RunState) (n : ℤ) (values : List ℤ) → Some n ≡ seen_of (value_in s.effect.writes var) (value_in reads var) → s' ≡ noted_of (value_in s.effect.writes var) (value_in reads var) s var
    → ahead values (footprint_seen reads (var ∷ vars) s) ≡ ahead (values ++ n ∷ []) (footprint_seen reads vars s')
ahead_seen reads var vars s s' n values is then =
    let noted = noted_of (value_in s.effect.writes var) (value_in reads var) s var in
    ap (ahead values) (value_on_seen (value_in s.effect.writes var) (value_in reads var) s var (footprint_seen reads vars) ∙ ap (λ o. value_on o noted var (footprint_seen reads vars)) (sym is) ∙ ap (λ r. before n (footprint_seen reads vars r)) (sym then))
    ∙ ahead-before values n (footprint_seen reads vars s')
