-- Which names signatures have once one more is put behind them.
use Rattle.std.proofs.Common.{◌≡◌, ℕ, ◌+◌, ◌<◌, ◌≤◌, Bool, true, false, ◌||◌, bytes_eq, List, [], ◌∷◌, ◌++◌, length, get_or, All, refl, sym, subst, ◌∙◌, arith}
use Rattle.std.specs.Prelude.{◌≢◌}
use Rattle.std.proofs.lemmas.List.{map-append}
use Rattle.std.proofs.lemmas.List.Elements.{All-cons, All-nil}
use Rattle.std.proofs.lemmas.List.Folds.{list_any_at}
use Rattle.std.proofs.lemmas.List.Quantifiers.{all_pairs_push}
use Rattle.std.proofs.lemmas.Slice.Eq.{bytes_eq-Decides}
use Rattle.tmem_fault.specs.Distinct.{AreDistinct}
use Rattle.tmem_fault.specs.Name.{has_name}
use Rattle.tmem_tree.specs.declared.signature.Signature.{Signature}
use Rattle.tmem_tree.specs.Limits.{one_if}
use Rattle.tmem_tree.specs.Signatures.{names_of}

alone : (b : Bool) → one_if (b || false) ≤ one_if false + one_if b
alone true = omega arith
alone false = omega arith

behind : (first was now one : Bool) → one_if now ≤ one_if was + one_if one → one_if (first || now) ≤ one_if (first || was) + one_if one
behind true was now one more = omega arith
behind false was now one more = more

-- no name more than that of the last
pub has_name-others : (signatures : List Signature) (signature : Signature) (name other : List ℕ) → signature.name ≡ name → one_if (has_name (names_of (signatures ++ signature ∷ [])) other) ≤ one_if (has_name (names_of signatures) other) + one_if (bytes_eq name other)
has_name-others [] signature name other is =
    subst (λ n. one_if (bytes_eq signature.name other || false) ≤ one_if false + one_if (bytes_eq n other)) is (alone (bytes_eq signature.name other))
has_name-others (s ∷ ss) signature name other is =
    behind (bytes_eq s.name other) (has_name (names_of ss) other) (has_name (names_of (ss ++ signature ∷ [])) other) (bytes_eq name other) (has_name-others ss signature name other is)

-- a name that was not there stands once
pub distinct_pushed : (signatures : List Signature) (signature : Signature) (name : List ℕ) → signature.name ≡ name → has_name (names_of signatures) name ≡ false → AreDistinct (names_of signatures) → AreDistinct (names_of (signatures ++ signature ∷ []))
distinct_pushed signatures signature name is none distinct =
    subst AreDistinct (sym (map-append (λ (s : Signature). s.name) signatures (signature ∷ []))) (all_pairs_push (λ a b. a ≢ b) (names_of signatures) signature.name distinct apart)
  where
    apart : (k : ℕ) (d : List ℕ) → k < length (names_of signatures) → get_or (names_of signatures) k d ≢ signature.name
    apart k d within same =
        let found : has_name (names_of signatures) name ≡ true = list_any_at (λ n. bytes_eq n name) (names_of signatures) k d within ((bytes_eq-Decides (get_or (names_of signatures) k d) name).1 (same ∙ is)) in
        let clash : true ≡ false = sym found ∙ none in
        cc

first_known : (first later : Bool) → first ≡ true → (first || later) ≡ true
first_known true later is = refl
first_known false later is = cc

later_known : (first later : Bool) → later ≡ true → (first || later) ≡ true
later_known true later is = refl
later_known false later is = is

-- what each name has that is among theirs, all of theirs have
pub All-names : (P : List ℕ → Type 0) (signatures : List Signature) → ((name : List ℕ) → has_name (names_of signatures) name ≡ true → P name) → All P (names_of signatures)
All-names P [] each = All-nil P
All-names P (s ∷ ss) each =
    All-cons P s.name (names_of ss) (each s.name (first_known (bytes_eq s.name s.name) (has_name (names_of ss) s.name) ((bytes_eq-Decides s.name s.name).1 refl)))
    (All-names P ss (λ name there. each name (later_known (bytes_eq s.name name) (has_name (names_of ss) name) there)))
