-- What a failing test saw, and whose footprint it is.
use Rattle.std.proofs.Common.{◌≡◌, ℕ, ℤ, ◌<◌, true, List, length, map, Option, Some, None, Result, Ok, Err, ap, sym, ◌∙◌, subst}
use Rattle.std.specs.Prelude.{IfSome, IfOk}
use Rattle.std.specs.List.{Contains}
use Rattle.std.specs.Map.{keys_of}
use Rattle.tmem_seats.specs.Refusing.{IsFalseOn, AreEndValues, end_value}
use Rattle.std.proofs.lemmas.List.{get_or-map, length-map}
use Rattle.std.proofs.lemmas.List.Elements.{All-contains}
use Rattle.std.proofs.lemmas.Simd.{map-map}
use Rattle.tmem_effect.specs.Names.{has_name}
use Rattle.tmem_invariants.specs.Meanings.{Meanings}
use Rattle.tmem_invariants.specs.TableNames.{AreBelow}
use Rattle.tmem_invariants.proofs.Laws.{has_name-from_Contains}
use Rattle.tmem_tree.specs.declared.signature.Signature.{Signature}
use Rattle.tmem_tree.specs.Signatures.{AreMeant, AreWithin, names_of}

-- the values of a test that failed are as many as the footprint has variables
pub some_filled : (found : Option (List ℤ)) (values : List ℤ) (name asked : List ℕ) (footprint : List ℕ → List ℕ) → IfSome found (λ v. (v ≡ values) × (name ≡ asked)) → length values ≡ length (footprint name)
    → IfSome found (λ v. length v ≡ length (footprint asked))
some_filled None values name asked footprint is filled = tt
some_filled (Some v) values name asked footprint is filled = ap length is.0 ∙ (filled ∙ ap (λ (n : List ℕ). length (footprint n)) is.1)

-- a signature among those of a program has a name of it, and the footprint that it means
pub named_among : (signatures : List Signature) (signature : Signature) (names : List (List ℕ)) → Contains signatures signature → names_of signatures ≡ names → has_name names signature.name ≡ true
named_among signatures signature names there same =
    let among : Contains (names_of signatures) signature.name =
    (there.0, subst (λ n. there.0 < n) (sym (length-map signatures (λ (s : Signature). s.name))) there.1, get_or-map (λ (s : Signature). s.name) signatures there.0 signature signature.name there.1 ∙ ap (λ (s : Signature). s.name) there.2) in
    subst (λ (ns : List (List ℕ)). has_name ns signature.name ≡ true) same (has_name-from_Contains (names_of signatures) signature.name among)

pub meant_among : (tests : Meanings) (signatures : List Signature) (signature : Signature) → AreMeant tests signatures → Contains signatures signature → signature.footprint ≡ tests.footprint signature.name
meant_among tests signatures signature meant among = All-contains (λ (s : Signature). s.footprint ≡ tests.footprint s.name) signatures signature meant among

pub below_among : (vars least : ℕ) (signatures : List Signature) (signature : Signature) → vars ≡ least → AreWithin vars signatures → Contains signatures signature → AreBelow least signature.footprint
below_among vars least signatures signature same within among = subst (λ (n : ℕ). AreBelow n signature.footprint) same (All-contains (λ (s : Signature). AreBelow vars s.footprint) signatures signature within among)

-- values that are told with their variables are those at the end
pub end_values : (values : List ℤ) (writes : List (ℕ × ℤ)) (vars : List ℕ) (ends : List ℤ) (seen : List (ℕ × ℤ)) → keys_of seen ≡ vars → map (λ (v : ℕ × ℤ). v.1) seen ≡ ends
    → map (λ (n : ℤ). Some n) ends ≡ map (end_value values writes) vars → AreEndValues values writes seen
end_values values writes vars ends seen keys same are =
    sym (map-map (λ (n : ℤ). Some n) (λ (v : ℕ × ℤ). v.1) seen) ∙ (ap (map (λ (n : ℤ). Some n)) same ∙ (are ∙ (ap (map (end_value values writes)) (sym keys) ∙ map-map (end_value values writes) (λ (v : ℕ × ℤ). v.0) seen)))

-- the same where they are told of an invariant that is false on them
pub ends_told : {V E : Type 0} (items : V → List (ℕ × ℤ)) (tests : Meanings) (name : List ℕ) (values : List ℤ) (writes : List (ℕ × ℤ)) (vars : List ℕ) (ends : List ℤ) (result : Result (Option V) E)
    → IfOk result (λ found. IfSome found (λ v. IsFalseOn tests name (items v))) → IfOk result (λ found. IfSome found (λ v. map (λ (p : ℕ × ℤ). p.1) (items v) ≡ ends))
    → vars ≡ tests.footprint name → map (λ (n : ℤ). Some n) ends ≡ map (end_value values writes) vars
    → IfOk result (λ found. IfSome found (λ v. AreEndValues values writes (items v)))
ends_told items tests name values writes vars ends (Ok (Some v)) why same meant are = end_values values writes vars ends (items v) (why.footprint ∙ sym meant) same are
ends_told items tests name values writes vars ends (Ok None) why same meant are = tt
ends_told items tests name values writes vars ends (Err e) why same meant are = tt
