-- Names of variables as an object's members, one by one.
use Rattle.std.proofs.Common.{◌≡◌, ℕ, ◌<◌, List, [], ◌∷◌, ◌++◌, map, All, Some, String, Global, string_bytes, codes, refl, sym, ap, ◌∙◌, subst}
use Rattle.std.proofs.lemmas.List.Elements.{All-head, All-tail}
use Rattle.serde_json.specs.Data.{Data, object, Members, no_members, member}
use Rattle.serde_json.specs.Find.{get}
use Rattle.tmem_forms.specs.TxForms.{natural}
use Rattle.tmem_shape.specs.Shapes.{AreNamesOf, HasNames, IsVariableNamed, IsVariableName, names_form}
use Rattle.tmem_forms.proofs.Laws.{same_members}

abbrev pub Names : Type 0
Names = List (String Global × ℕ)

-- these names, and then these members
abbrev pub followed : Names → Members → Members
followed [] ms = ms
followed (n ∷ ns) ms = member (string_bytes n.0) (natural n.1) (followed ns ms)

pub followed-none : (ns : Names) → followed ns no_members ≡ names_form ns
followed-none [] = refl
followed-none (n ∷ ns) = ap (member (string_bytes n.0) (natural n.1)) (followed-none ns)

pub followed-more : (ns : Names) (k : List ℕ) (d : Data) (ms : Members) (name : String Global) (var : ℕ) → string_bytes name ≡ k → d ≡ natural var → followed ns (member k d ms) ≡ followed (ns ++ (name, var) ∷ []) ms
followed-more [] k d ms name var key is =
    ap (λ l. member l d ms) (sym key) ∙ ap (λ e. member (string_bytes name) e ms) is
followed-more (n ∷ ns) k d ms name var key is =
    ap (member (string_bytes n.0) (natural n.1)) (followed-more ns k d ms name var key is)

-- where one member is no name of a variable, the members are no names
pub no_names_at : (vars : ℕ) (ns : Names) (k : List ℕ) (d : Data) (ms : Members) → ((var : ℕ) → IsVariableName k → var < vars → ¬ (d ≡ natural var)) → (others : Names) → All (IsVariableNamed vars) others → ¬ (followed ns (member k d ms) ≡ names_form others)
no_names_at vars [] k d ms none [] named same = cc
no_names_at vars [] k d ms none (o ∷ others) named same =
    let key : string_bytes o.0 ≡ k = cc in
    let value : d ≡ natural o.1 = cc in
    let is = All-head (IsVariableNamed vars) o others named in
    none o.1 (subst IsVariableName key is.name) is.below value
no_names_at vars (n ∷ ns) k d ms none [] named same = cc
no_names_at vars (n ∷ ns) k d ms none (o ∷ others) named same =
    let tail : followed ns (member k d ms) ≡ names_form others = cc in
    no_names_at vars ns k d ms none others (All-tail (IsVariableNamed vars) o others named) tail

-- the same members name the same variables
pub names_same : (ns os : Names) → names_form ns ≡ names_form os → map (λ n. n.1) ns ≡ map (λ n. n.1) os
names_same [] [] same = refl
names_same [] (o ∷ os) same = cc
names_same (n ∷ ns) [] same = cc
names_same (n ∷ ns) (o ∷ os) same =
    let head : n.1 ≡ o.1 = cc in
    let tail : names_form ns ≡ names_form os = cc in
    ap (λ x. x ∷ map (λ (m : String Global × ℕ). m.1) ns) head ∙ ap (λ xs. o.1 ∷ xs) (names_same ns os tail)

-- ---- the names that stand at their key

names_in : (d v : Data) (n : ℕ) (names : Names) → get (codes "names") d ≡ Some v → HasNames n names d → v ≡ object (names_form names)
names_in d v n names found has = subst (λ o. AreNamesOf o names) found has.stands

pub names_found : (d v : Data) (ms : Members) (n : ℕ) (names : Names) → get (codes "names") d ≡ Some v → v ≡ object ms → HasNames n names d → ms ≡ names_form names
names_found d v ms n names found is has =
    same_members ms (names_form names) (sym is ∙ names_in d v n names found has)
