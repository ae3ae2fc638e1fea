-- What a look-up among signatures finds.
use Rattle.std.proofs.Common.{◌≡◌, ℕ, ◌<◌, Bool, true, false, not, cond, ◌||◌, bytes_eq, List, [], ◌∷◌, ◌++◌, map, find, Contains, Option, Some, None, is_some, option_map, refl, sym, ap, subst, ◌∙◌, arith}
use Rattle.std.specs.Option.{IsSome, option_map_or}
use Rattle.std.specs.List.{list_any}
use Rattle.std.proofs.lemmas.List.Elements.{All-contains, All-nil, Contains-append_right}
use Rattle.std.proofs.lemmas.Slice.Eq.{bytes_eq-Decides}
use Rattle.tmem_fault.specs.Name.{has_name}
use Rattle.tmem_invariants.specs.Meanings.{Meanings}
use Rattle.tmem_invariants.specs.TableNames.{AreBelow}
use Rattle.tmem_tree.specs.declared.signature.Signature.{Signature}
use Rattle.tmem_tree.specs.Signatures.{AreMeant, AreWithin, names_of, signature_in, footprint_in}

-- what is found is there, and passes
found_first : {X : Type 0} (p : X → Bool) (y : X) (ys : List X) (x : X) → (find p ys ≡ Some x → Contains ys x × (p x ≡ true)) → (b : Bool) → p y ≡ b → cond b (Some y) (find p ys) ≡ Some x → Contains (y ∷ ys) x × (p x ≡ true)
found_first p y ys x later true passes is =
    let same : y ≡ x = cc in (subst (Contains (y ∷ ys)) same (0, omega arith, refl), ap p (sym same) ∙ passes)
found_first p y ys x later false fails is =
    let rest = later is in (Contains-append_right (y ∷ []) ys x rest.0, rest.1)

found : {X : Type 0} (p : X → Bool) (xs : List X) (x : X) → find p xs ≡ Some x → Contains xs x × (p x ≡ true)
found p [] x is = cc
found p (y ∷ ys) x is = found_first p y ys x (found p ys x) (p y) refl is

-- it is found where one passes
either_found : {X : Type 0} (y : X) (b : Bool) (later : Option X) (any : Bool) → is_some later ≡ any → is_some (cond b (Some y) later) ≡ (b || any)
either_found y true later any same = refl
either_found y false later any same = same

is_some-find : {X : Type 0} (p : X → Bool) (xs : List X) → is_some (find p xs) ≡ list_any p xs
is_some-find p [] = refl
is_some-find p (y ∷ ys) = either_found y (p y) (find p ys) (list_any p ys) (is_some-find p ys)

list_any-map : {X Y : Type 0} (p : Y → Bool) (f : X → Y) (xs : List X) → list_any p (map f xs) ≡ list_any (λ x. p (f x)) xs
list_any-map p f [] = refl
list_any-map p f (x ∷ xs) = ap (λ b. p (f x) || b) (list_any-map p f xs)

-- a name is found where it is one of theirs
pub is_some-signature_in : (signatures : List Signature) (name : List ℕ) → is_some (signature_in signatures name) ≡ has_name (names_of signatures) name
is_some-signature_in signatures name =
    is_some-find (λ signature. bytes_eq signature.name name) signatures
    ∙ sym (list_any-map (λ other. bytes_eq other name) (λ (signature : Signature). signature.name) signatures)

-- by that name
pub found_signature : (signatures : List Signature) (name : List ℕ) (signature : Signature) → signature_in signatures name ≡ Some signature → Contains signatures signature × (signature.name ≡ name)
found_signature signatures name signature is =
    let f = found (λ (s : Signature). bytes_eq s.name name) signatures signature is in (f.0, (bytes_eq-Decides signature.name name).0 f.1)

-- what the code found shows what is found
pub IsSome-shown : {E X : Type 0} (show : E → X) (o : Option E) (there : Option X) → option_map show o ≡ there → is_some there ≡ true → IsSome o
IsSome-shown show (Some e) there is some = refl
IsSome-shown show None there is some =
    let no : false ≡ true = subst (λ t. is_some t ≡ true) (sym is) some in absurd (cc)

pub is_some-shown : {E X : Type 0} (show : E → X) (o : Option E) (there : Option X) → option_map show o ≡ there → is_some o ≡ is_some there
is_some-shown show (Some e) there is = ap is_some is
is_some-shown show None there is = ap is_some is

-- one of two opposites is the opposite of the other
pub turned : (none some : Bool) → some ≡ not none → none ≡ not some
turned true some is = ap not (sym is)
turned false some is = ap not (sym is)

-- the name of the last is one of theirs
either_known : (first later : Bool) → later ≡ true → (first || later) ≡ true
either_known true later some = refl
either_known false later some = some

pub has_name-pushed : (signatures : List Signature) (signature : Signature) (name : List ℕ) → signature.name ≡ name → has_name (names_of (signatures ++ signature ∷ [])) name ≡ true
has_name-pushed [] signature name is =
    ap (λ b. b || false) ((bytes_eq-Decides signature.name name).1 is)
has_name-pushed (s ∷ ss) signature name is =
    either_known (bytes_eq s.name name) (has_name (names_of (ss ++ signature ∷ [])) name) (has_name-pushed ss signature name is)

-- a name that is known has a signature
known_signature : (o : Option Signature) → is_some o ≡ true → (signature : Signature) × (o ≡ Some signature)
known_signature (Some signature) some = (signature, refl)
known_signature None some = absurd (cc)

signature_of_known : (signatures : List Signature) (name : List ℕ) → has_name (names_of signatures) name ≡ true → (signature : Signature) × (signature_in signatures name ≡ Some signature)
signature_of_known signatures name there =
    known_signature (signature_in signatures name) (is_some-signature_in signatures name ∙ there)

-- the footprint of a known name is what is meant, where the signatures are
pub footprint_in-AreMeant : (tests : Meanings) (signatures : List Signature) (name : List ℕ) → AreMeant tests signatures → has_name (names_of signatures) name ≡ true → footprint_in signatures name ≡ tests.footprint name
footprint_in-AreMeant tests signatures name meant there =
    let s = signature_of_known signatures name there in
    let f = found_signature signatures name s.0 s.1 in
    ap (λ o. option_map_or (λ (signature : Signature). signature.footprint) o []) s.1
    ∙ All-contains (λ (signature : Signature). signature.footprint ≡ tests.footprint signature.name) signatures s.0 meant f.0
    ∙ ap tests.footprint f.1

-- each variable of a footprint is below what those of all are
pub AreBelow-footprint_in : (vars : ℕ) (signatures : List Signature) (name : List ℕ) → AreWithin vars signatures → AreBelow vars (footprint_in signatures name)
AreBelow-footprint_in vars signatures name within = on (signature_in signatures name) refl
  where
    on : (o : Option Signature) → signature_in signatures name ≡ o → AreBelow vars (option_map_or (λ (signature : Signature). signature.footprint) o [])
    on None is = All-nil (λ var. var < vars)
    on (Some signature) is =
        All-contains (λ (s : Signature). AreBelow vars s.footprint) signatures signature within (found_signature signatures name signature is).0
