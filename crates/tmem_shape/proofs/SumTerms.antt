-- Terms of a sum, one by one.
use Rattle.std.proofs.Common.{◌≡◌, ℕ, zero, suc, ◌<◌, codes, List, [], ◌∷◌, ◌++◌, length, get_or, map, All, Some, refl, sym, ap, ◌∙◌, arith}
use Rattle.std.proofs.lemmas.List.{length-map}
use Rattle.std.proofs.lemmas.List.Elements.{All-head, All-tail}
use Rattle.serde_json.specs.Data.{Data, string}
use Rattle.serde_json.specs.Find.{get}
use Rattle.serde_json.specs.View.{view}
use Rattle.serde_json.specs.declared.value.Value.{Value}
use Rattle.tmem_forms.specs.TxForms.{array_of, integer, natural}
use Rattle.tmem_invariants.specs.TableNames.{AreBelow}
use Rattle.tmem_tables.specs.declared.weight.Weight.{Weight}
use Rattle.tmem_tables.specs.declared.weight.Weight.TheVariants.{Value as Times, Nonzero}
use Rattle.tmem_shape.specs.Shapes.{HasSum, WeightFits, term_form, terms_form}
use Rattle.tmem_shape.proofs.Arrays.{array_same}
use Rattle.tmem_shape.proofs.Found.{one_there}

-- one term more
pub terms_more : (vars : List ℕ) (weights : List Weight) (ds : List Data) (var : ℕ) (weight : Weight) (d : Data) → length weights ≡ length vars → ds ≡ terms_form vars weights → d ≡ term_form var weight → ds ++ d ∷ [] ≡ terms_form (vars ++ var ∷ []) (weights ++ weight ∷ [])
terms_more [] [] ds var weight d paired before here =
    ap (λ xs. xs ++ d ∷ []) before ∙ ap (λ x. x ∷ []) here
terms_more [] (w ∷ weights) ds var weight d paired before here = absurd (omega (arith, paired))
terms_more (v ∷ vars) [] ds var weight d paired before here = absurd (omega (arith, paired))
terms_more (v ∷ vars) (w ∷ weights) ds var weight d paired before here =
    ap (λ xs. xs ++ d ∷ []) before ∙ ap (λ xs. term_form v w ∷ xs) (terms_more vars weights (terms_form vars weights) var weight d (omega (arith, paired)) refl here)

pub length-terms_form : (vars : List ℕ) (weights : List Weight) → length weights ≡ length vars → length (terms_form vars weights) ≡ length vars
length-terms_form [] weights paired = refl
length-terms_form (v ∷ vars) [] paired = absurd (omega (arith, paired))
length-terms_form (v ∷ vars) (w ∷ weights) paired = ap suc (length-terms_form vars weights (omega (arith, paired)))

-- where one value is no term, the values are no terms
pub no_terms_at : (n : ℕ) (vs : List Value) (i : ℕ) (v : Value) → i < length vs → v ≡ get_or vs i v → ((var : ℕ) (weight : Weight) → var < n → WeightFits weight → ¬ (view v ≡ term_form var weight)) → (vars : List ℕ) (weights : List Weight) → AreBelow n vars → All WeightFits weights → ¬ (map view vs ≡ terms_form vars weights)
no_terms_at n [] i v within is none vars weights below fit same = absurd (omega (arith, within))
no_terms_at n (w ∷ vs) i v within is none [] weights below fit same = cc
no_terms_at n (w ∷ vs) i v within is none (x ∷ vars) [] below fit same = cc
no_terms_at n (w ∷ vs) zero v within is none (x ∷ vars) (y ∷ weights) below fit same =
    let head : view w ≡ term_form x y = cc in
    none x y (All-head (λ var. var < n) x vars below) (All-head WeightFits y weights fit) (ap view is ∙ head)
no_terms_at n (w ∷ vs) (suc i) v within is none (x ∷ vars) (y ∷ weights) below fit same =
    let tail : map view vs ≡ terms_form vars weights = cc in
    no_terms_at n vs i v (omega (arith, within)) is none vars weights (All-tail (λ var. var < n) x vars below) (All-tail WeightFits y weights fit) tail

-- ---- the items of a term

third_is : (vs : List Value) (x y z : Data) → map view vs ≡ x ∷ y ∷ z ∷ [] → (v : Value) → v ≡ get_or vs 2 v → view v ≡ z
third_is [] x y z same v is = absurd (cc)
third_is (a ∷ []) x y z same v is = absurd (cc)
third_is (a ∷ b ∷ []) x y z same v is = absurd (cc)
third_is (a ∷ b ∷ c ∷ vs) x y z same v is = let there : view c ≡ z = cc in ap view is ∙ there

-- a value is no term where it has not two items, and not three with the word
pub no_term_of : (d : Data) (vs : List Value) → d ≡ array_of (map view vs) → ¬ (length vs ≡ 2) → (length vs ≡ 3 → (v : Value) × (v ≡ get_or vs 2 v) × ¬ (view v ≡ string (codes "nonzero"))) → (var : ℕ) (weight : Weight) → ¬ (d ≡ term_form var weight)
no_term_of d vs is not_two other var (Times number) form =
    let same = array_same (map view vs) (integer number ∷ natural var ∷ []) (sym is ∙ form) in
    not_two (sym (length-map vs view) ∙ ap length same)
no_term_of d vs is not_two other var (Nonzero number) form =
    let same = array_same (map view vs) (integer number ∷ natural var ∷ string (codes "nonzero") ∷ []) (sym is ∙ form) in
    let third = other (sym (length-map vs view) ∙ ap length same) in
    third.2 (third_is vs (integer number) (natural var) (string (codes "nonzero")) same third.0 third.1)

term_variable : (v w : ℕ) (a b : Weight) → term_form v a ≡ term_form w b → v ≡ w
term_variable v w (Times m) (Times n) same = cc
term_variable v w (Times m) (Nonzero n) same = absurd (cc)
term_variable v w (Nonzero m) (Times n) same = absurd (cc)
term_variable v w (Nonzero m) (Nonzero n) same = cc

-- the same terms are over the same variables
pub terms_same : (vars others : List ℕ) (weights those : List Weight) → length weights ≡ length vars → length those ≡ length others → terms_form vars weights ≡ terms_form others those → vars ≡ others
terms_same [] [] weights those paired also same = refl
terms_same [] (w ∷ others) weights [] paired also same = absurd (omega (arith, also))
terms_same [] (w ∷ others) weights (b ∷ those) paired also same = absurd (cc)
terms_same (v ∷ vars) others [] those paired also same = absurd (omega (arith, paired))
terms_same (v ∷ vars) [] (a ∷ weights) those paired also same = absurd (cc)
terms_same (v ∷ vars) (w ∷ others) (a ∷ weights) [] paired also same = absurd (omega (arith, also))
terms_same (v ∷ vars) (w ∷ others) (a ∷ weights) (b ∷ those) paired also same =
    let head : term_form v a ≡ term_form w b = cc in
    let tail : terms_form vars weights ≡ terms_form others those = cc in
    ap (λ x. x ∷ vars) (term_variable v w a b head) ∙ ap (λ xs. w ∷ xs) (terms_same vars others weights those (omega (arith, paired)) (omega (arith, also)) tail)

-- ---- the sum that stands at its key

pub sum_terms : (d v : Data) (vs : List Value) (n : ℕ) (footprint : List ℕ) (weights : List Weight) → get (codes "sum") d ≡ Some v → v ≡ array_of (map view vs) → HasSum n footprint weights d → map view vs ≡ terms_form footprint weights
sum_terms d v vs n footprint weights found is has =
    array_same (map view vs) (terms_form footprint weights) (sym is ∙ one_there d v (array_of (terms_form footprint weights)) (codes "sum") found has.stands)

pub sum_length : (d v : Data) (vs : List Value) (n : ℕ) (footprint : List ℕ) (weights : List Weight) → get (codes "sum") d ≡ Some v → v ≡ array_of (map view vs) → HasSum n footprint weights d → length vs ≡ length footprint
sum_length d v vs n footprint weights found is has =
    sym (length-map vs view)
    ∙ ap length (sum_terms d v vs n footprint weights found is has)
    ∙ length-terms_form footprint weights has.terms.paired
