-- Where nothing is retired, no name that was registered is left out.
use Rattle.std.proofs.Common.{◌≡◌, Bool, ◌||◌, ◌&&◌, not, true, false, bytes_eq, List, [], ◌∷◌, ◌++◌, flat_map, cond, ℕ, get_or, All, refl, sym, ap, ◌∙◌}
use Rattle.std.specs.List.{filter}
use Rattle.std.proofs.lemmas.List.Concat.{flat_map-cons}
use Rattle.std.proofs.lemmas.List.Elements.{All-head, All-tail}
use Rattle.std.proofs.lemmas.List.Folds.{list_any-append, list_any_at}
use Rattle.std.proofs.lemmas.Slice.Eq.{bytes_eq-Decides}
use Rattle.tmem_effect.specs.Names.{has_name}
use Rattle.tmem_effect.specs.State.{State, apply, fold}
use Rattle.tmem_effect.specs.declared.effect.Effect.{Effect}
use Rattle.tmem_effect.proofs.Laws.{has_name-apply, without_names-filter}
use Rattle.tmem_core.specs.Verdict.{serial_state, serial_effects}
use Rattle.tmem_core.specs.Following.{NamesOnlyGrow}
use Rattle.tmem_core.proofs.SerialLaws.{serial_state-fold}

-- the names that these effects register
abbrev names_of : List Effect → List (List ℕ)
names_of es = flat_map (λ (e : Effect). e.names) es

-- what passes no test is left out
filter_none : {X : Type 0} (p : X → Bool) (xs : List X) → All (λ x. p x ≡ false) xs → filter p xs ≡ []
filter_none p [] none = refl
filter_none p (x ∷ xs) none = by (p x) (All-head (λ y. p y ≡ false) x xs none) (filter_none p xs (All-tail (λ y. p y ≡ false) x xs none))
  where
    by : (b : Bool) → b ≡ false → filter p xs ≡ [] → cond b (x ∷ filter p xs) (filter p xs) ≡ []
    by true is rest = cc
    by false is rest = rest

-- what is there with nothing beside it is there
alone : (there : Bool) → (there || false) ≡ true → there ≡ true
alone true is = refl
alone false is = cc

-- a name that was there, is added or is added later, and is not retired, is there or is added later
carried : (there added later retired : Bool) → retired ≡ false → (there || (added || later)) ≡ true → ((added || (not retired && there)) || later) ≡ true
carried there added later true kept is = cc
carried there true later false kept is = refl
carried true false later false kept is = refl
carried false false later false kept is = is

module _ (name : List ℕ) where
  -- a name that is registered, or that one of these effects registers, is registered after them, where none is retired
  stays_there : (s : State) (es : List Effect) → All (λ (e : Effect). e.retired ≡ []) es → (has_name s.names name || has_name (names_of es) name) ≡ true → has_name (fold s es).names name ≡ true
  stays_there s [] none is = alone (has_name s.names name) is
  stays_there s (e ∷ es) none is =
      let more : has_name (names_of (e ∷ es)) name ≡ (has_name e.names name || has_name (names_of es) name) =
      ap (λ ns. has_name ns name) (flat_map-cons (λ (x : Effect). x.names) e es) ∙ list_any-append (λ n. bytes_eq n name) e.names (names_of es) in
      let kept : has_name e.retired name ≡ false = ap (λ ns. has_name ns name) (All-head (λ (x : Effect). x.retired ≡ []) e es none) in
      let met : (has_name s.names name || (has_name e.names name || has_name (names_of es) name)) ≡ true = ap (λ b. has_name s.names name || b) (sym more) ∙ is in
      stays_there (apply s e) es (All-tail (λ (x : Effect). x.retired ≡ []) e es none)
      (ap (λ b. b || has_name (names_of es) name) (has_name-apply s e name) ∙ carried (has_name s.names name) (has_name e.names name) (has_name (names_of es) name) (has_name e.retired name) kept met)

-- so none of those that were registered is left out
pub none_left : NamesOnlyGrow
none_left p s txs none =
    without_names-filter met last ∙ filter_none (λ n. not (has_name last n)) met (λ k d below.
    ap not (here (get_or met k d) (list_any_at (λ n. bytes_eq n (get_or met k d)) met k d below ((bytes_eq-Decides (get_or met k d) (get_or met k d)).1 refl))))
  where
    effects : List Effect
    effects = serial_effects p s txs

    met : List (List ℕ)
    met = s.names ++ names_of effects

    last : List (List ℕ)
    last = (serial_state p s txs).names

    here : (name : List ℕ) → has_name met name ≡ true → has_name last name ≡ true
    here name there =
        ap (λ (x : State). has_name x.names name) (serial_state-fold p s txs)
        ∙ stays_there name s effects none (sym (list_any-append (λ n. bytes_eq n name) s.names (names_of effects)) ∙ there)
