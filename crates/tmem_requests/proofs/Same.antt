-- What has the same form is the same.
use Rattle.std.proofs.Common.{◌≡◌, ℕ, ℤ, pos, negsuc, codes, List, [], ◌∷◌, map, refl, sym, ap, ◌∙◌}
use Rattle.serde_json.specs.Data.{Data, array, string}
use Rattle.serde_json.specs.View.{items_of}
use Rattle.tmem_forms.proofs.Laws.{two_same}
use Rattle.tmem_forms.specs.TxForms.{array_of, integer, natural}
use Rattle.tmem_requests.specs.Forms.{list_at, pair_form}
use Rattle.tmem_requests.specs.Proposals.{IsProposal}
use Rattle.tmem_requests.specs.Requests.{IsSettle}
use Rattle.tmem_requests.specs.declared.proposal.Proposal.{Proposal}

-- forms of which no two are alike
abbrev IsOneToOne : {X : Type 0} → (X → Data) → Type 0
IsOneToOne {X} form = (x y : X) → form x ≡ form y → x ≡ y

same_items : {X : Type 0} (form : X → Data) → IsOneToOne form → (xs ys : List X) → items_of (map form xs) ≡ items_of (map form ys) → xs ≡ ys
same_items form one [] [] same = refl
same_items form one [] (y ∷ ys) same = cc
same_items form one (x ∷ xs) [] same = cc
same_items form one (x ∷ xs) (y ∷ ys) same =
    let here : form x ≡ form y = cc in
    let rest : items_of (map form xs) ≡ items_of (map form ys) = cc in
    ap (λ z. z ∷ xs) (one x y here) ∙ ap (λ zs. y ∷ zs) (same_items form one xs ys rest)

same_array : {X : Type 0} (form : X → Data) → IsOneToOne form → (d : Data) (xs ys : List X) → d ≡ array_of (map form xs) → d ≡ array_of (map form ys) → xs ≡ ys
same_array form one d xs ys first second =
    let arrays : array (items_of (map form xs)) ≡ array (items_of (map form ys)) = sym first ∙ second in
    same_items form one xs ys cc

same_string : (x y : List ℕ) → string x ≡ string y → x ≡ y
same_string x y same = cc

same_natural : (m n : ℕ) → natural m ≡ natural n → m ≡ n
same_natural m n same = cc

pub same_integer : (m n : ℤ) → integer m ≡ integer n → m ≡ n
same_integer (pos m) (pos n) same = cc
same_integer (pos m) (negsuc n) same = cc
same_integer (negsuc m) (pos n) same = cc
same_integer (negsuc m) (negsuc n) same = cc

abbrev pair : ℕ → ℤ → ℕ × ℤ
pair var value = (var, value)

same_pair : (p q : ℕ × ℤ) → pair_form p ≡ pair_form q → p ≡ q
same_pair p q same =
    let parts = two_same (natural p.0) (integer p.1) (natural q.0) (integer q.1) same in
    ap (λ (var : ℕ). pair var p.1) (same_natural p.0 q.0 parts.0) ∙ ap (pair q.0) (same_integer p.1 q.1 parts.1)

-- an array of pairs has one reading, and an array of numbers, and one of strings
pub same_pairs : (d : Data) (xs ys : List (ℕ × ℤ)) → d ≡ array_of (map pair_form xs) → d ≡ array_of (map pair_form ys) → xs ≡ ys
same_pairs = same_array pair_form same_pair

pub same_naturals : (d : Data) (xs ys : List ℕ) → d ≡ array_of (map natural xs) → d ≡ array_of (map natural ys) → xs ≡ ys
same_naturals = same_array natural same_natural

pub same_strings : (d : Data) (xs ys : List (List ℕ)) → d ≡ array_of (map string xs) → d ≡ array_of (map string ys) → xs ≡ ys
same_strings = same_array string same_string

-- a value is the form of one proposal at most: what is read at its keys is what the proposal has
pub proposal_is : (proposal : Proposal) (d : Data) (reads writes : List (ℕ × ℤ)) (checks retires : List (List ℕ)) → IsSettle proposal d
    → list_at (codes "reads") d ≡ array_of (map pair_form reads) → list_at (codes "writes") d ≡ array_of (map pair_form writes)
    → list_at (codes "check") d ≡ array_of (map string checks) → list_at (codes "retire") d ≡ array_of (map string retires)
    → IsProposal reads writes checks retires
proposal_is proposal d reads writes checks retires is r w k t =
    let same_reads = same_pairs _ proposal.reads.items reads is.reads.form r in
    let same_writes = same_pairs _ proposal.writes.items writes is.writes.form w in
    let same_checks = same_strings _ proposal.checks.items checks is.checks.form k in
    let same_retires = same_strings _ proposal.retires.items retires is.retires.form t in
    rw (← same_reads, ← same_writes, ← same_checks, ← same_retires) proposal.fine
