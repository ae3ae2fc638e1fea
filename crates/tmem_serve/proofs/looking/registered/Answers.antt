use Rattle.std.proofs.Common.{◌≡◌, ℕ, ◌<◌, ◌+◌, Bool, true, false, cond, List, [], ◌∷◌, ◌++◌, length, map, take, get_or, refl, ap, sym, ◌∙◌, subst, arith}
use Rattle.std.specs.Prelude.{filter, if◌then◌else◌}
use Rattle.std.proofs.lemmas.List.{append-nil, get_or-map}
use Rattle.std.proofs.lemmas.List.Elements.{filter_more}
use Rattle.tmem_serve.proofs.looking.registered.Goals as goal

-- one name more
more : (p : List ℕ → Bool) (names : List (List ℕ)) (has : List Bool) (all new : List (List ℕ)) (at : ℕ) (name : List ℕ) (there : Bool) → has ≡ map p names → all ≡ filter p (take at names) → at < length names
    → new ≡ (if there then all ++ name ∷ [] else all) → name ≡ get_or names at name → there ≡ get_or has at false → new ≡ filter p (take (at + 1) names)
more p names has all new at name there is so below pushed named told =
    let test : there ≡ p name =
    told ∙ (ap (λ (l : List Bool). get_or l at false) is ∙ (get_or-map p names at name false below ∙ ap p (sym named))) in
    let step : filter p (take (at + 1) names) ≡ filter p (take at names) ++ cond (p name) (name ∷ []) [] =
    subst (λ (n : List ℕ). filter p (take (at + 1) names) ≡ filter p (take at names) ++ cond (p n) (n ∷ []) []) (sym named) (filter_more p names at name below) in
    pushed ∙ (by there all ∙ (ap (λ (b : Bool). all ++ cond b (name ∷ []) []) test ∙ (ap (λ (l : List (List ℕ)). l ++ cond (p name) (name ∷ []) []) so ∙ sym step)))
  where
    by : (b : Bool) (l : List (List ℕ)) → (if b then l ++ name ∷ [] else l) ≡ l ++ cond b (name ∷ []) []
    by true l = refl
    by false l = sym (append-nil l)

pub loop-at-preserved : goal.loop-at-preserved
loop-at-preserved c = λ p is. more p c.args.names.now c.args.has.now c.loop-at.all.items c.push_if.new.all.items c.loop-at.at _ _ is (c.loop-at.invariant p is) (omega arith) c.in_ok-push_if.ensures (cc) refl
