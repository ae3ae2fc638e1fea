-- A test that computes says that a text is a name.
use Rattle.std.proofs.Common.{◌≡◌, ℕ, ◌≤◌, Bool, true, ◌&&◌, leb, List, length, arith}
use Rattle.std.specs.List.{list_all}
use Rattle.std.proofs.lemmas.Bool.Decides.{nat_tests}
use Rattle.std.proofs.lemmas.List.Elements.{All-weaker}
use Rattle.std.proofs.lemmas.List.Sums.{AllPass-from_list_all}
use Rattle.tmem_fault.specs.Name.{IsLetter, IsName}

-- a byte from a to z
abbrev is_letter : ℕ → Bool
is_letter b = leb 97 b && leb b 122

letter : (b : ℕ) → is_letter b ≡ true → IsLetter b
letter b is = grind (arith, nat_tests)

pub IsName-from_test : (bs : List ℕ) → 1 ≤ length bs → length bs ≤ 16 → list_all is_letter bs ≡ true → IsName bs
IsName-from_test bs not_empty short letters = record {
  not_empty = not_empty;
  short = short;
  letters = All-weaker (λ b. is_letter b ≡ true) IsLetter letter bs (AllPass-from_list_all is_letter bs letters);
}
