-- Transactions that are kept under a word.
use Rattle.std.specs.Prelude.{ℕ, Bool, List, [], ◌∷◌, find, Option, bytes_eq, if◌then◌else◌}
use Rattle.std.specs.Option.{option_map}
use Rattle.tmem_tree.specs.declared.tx.Tx.{Tx}

-- whether a transaction is kept under this word
abbrev pub is_under : List ℕ → (List ℕ × Tx) → Bool
is_under word kept = bytes_eq kept.0 word

-- the one that is kept under a word
abbrev pub kept_under : List ℕ → List (List ℕ × Tx) → Option Tx
kept_under word kept = option_map (λ (k : List ℕ × Tx). k.1) (find (is_under word) kept)

-- a transaction in place of the one that is kept under the word, or behind all
abbrev pub with_kept : List ℕ → Tx → List (List ℕ × Tx) → List (List ℕ × Tx)
with_kept word tx [] = (word, tx) ∷ []
with_kept word tx (k ∷ ks) = if is_under word k then (word, tx) ∷ ks else k ∷ with_kept word tx ks
