-- The names of a set, read one after another.
use Rattle.std.proofs.Common.{◌≡◌, ◌<◌, ◌+◌, ℕ, Bool, true, false, List, [], ◌∷◌, ◌++◌, length, get_or, refl, sym, ◌∙◌, ap, subst, arith, length-append}
use Rattle.std.specs.Prelude.{All, IsTrue, ◌↔◌}
use Rattle.std.proofs.lemmas.Bool.{false≢true}
use Rattle.std.proofs.lemmas.List.{get_or_at, get_or_append_left}
use Rattle.tmem_fault.specs.Name.{IsName}
use Rattle.tmem_effect.specs.Names.{is_before, AreRegistered}
use Rattle.tmem_record.specs.Spelling.{name_bytes, names_bytes}
use Rattle.tmem_effect.proofs.Laws.{AreRegistered-nil, AreRegistered-push}
use Rattle.tmem_record.proofs.CodecReads.{HasRead, Counted, read_none, read_more, one_more, names_that}

-- so many names were read, and this is left
abbrev pub ReadNameSet : ℕ → List (List ℕ) → List ℕ → List ℕ → Type 0
ReadNameSet i ns bytes rest = HasRead AreRegistered name_bytes i ns bytes rest

pub none_read : (ns : List (List ℕ)) (bytes : List ℕ) → ns ≡ [] → ReadNameSet 0 ns bytes bytes
none_read ns bytes none = subst (λ (l : List (List ℕ)). ReadNameSet 0 l bytes bytes) (sym none) (read_none AreRegistered name_bytes bytes AreRegistered-nil)

-- one name more
pub name_more : (i : ℕ) (ns : List (List ℕ)) (name bytes rest next : List ℕ) → ReadNameSet i ns bytes rest → All (λ (n : List ℕ). is_before n name ≡ true) ns → length ns < 64 → IsName name → rest ≡ name_bytes name ++ next
    → ReadNameSet (i + 1) (ns ++ name ∷ []) bytes next
name_more i ns name bytes rest next read below room is same =
    read_more AreRegistered name_bytes i ns name bytes rest next read (AreRegistered-push ns name below room is read.valid) same

-- a name that stands amidst registered ones is above those before it
above_those_before : (ns zs : List (List ℕ)) (name : List ℕ) → AreRegistered (ns ++ name ∷ zs) → All (λ (n : List ℕ). is_before n name ≡ true) ns
above_those_before ns zs name are k d below =
    let long = length-append ns (name ∷ zs) in
    let first = get_or_append_left ns (name ∷ zs) d k below in
    let second = get_or_at ns name zs d (length ns) refl in
    subst (λ (n : List ℕ). is_before n name ≡ true) first (subst (λ (n : List ℕ). is_before (get_or (ns ++ name ∷ zs) k d) n ≡ true) second (are.ascending k (length ns) d below (omega (arith, long))))

-- the names behind their count
abbrev pub registered : Counted (List ℕ)
registered = names_that AreRegistered 64 (λ ns are. are.names) (λ ns are. are.few)

-- a name that cannot come last
pub not_above : (count : ℕ) (bytes behind : List ℕ) → bytes ≡ count ∷ behind → (i : ℕ) (ns : List (List ℕ)) (rest : List ℕ) → ReadNameSet i ns behind rest → i < count → (name next : List ℕ) → IsName name → rest ≡ name_bytes name ++ next
    → (fits : Bool) → (IsTrue fits ↔ ((length ns < 64) × All (λ (n : List ℕ). is_before n name ≡ true) ns)) → fits ≡ false → (os : List (List ℕ)) (s : List ℕ) → AreRegistered os → bytes ≡ names_bytes os ++ s → ⊥
not_above count bytes behind parts i ns rest read less name next is here fits iff not os s are same =
    let more = one_more registered count bytes behind parts i ns rest read less name next is here os s are same in
    let whole : length os ≡ length ns + (1 + length more.0) = ap length more.1 ∙ length-append ns (name ∷ more.0) ∙ omega arith in
    false≢true (sym not ∙ iff.1 (omega (arith, whole, are.few), above_those_before ns more.0 name (subst AreRegistered more.1 are)))
