-- Names of invariants, each with its footprint.
use Rattle.std.specs.Prelude.{◌≡◌, ℕ, bytes_eq, List, [], map, find, All, Option}
use Rattle.std.specs.Option.{option_map_or}
use Rattle.tmem_invariants.specs.Meanings.{Meanings}
use Rattle.tmem_invariants.specs.TableNames.{AreBelow}
use Rattle.tmem_tree.specs.declared.signature.Signature.{Signature}

-- the names, in order
abbrev pub names_of : List Signature → List (List ℕ)
names_of signatures = map (λ signature. signature.name) signatures

-- the first of a name
abbrev pub signature_in : List Signature → List ℕ → Option Signature
signature_in signatures name = find (λ signature. bytes_eq signature.name name) signatures

-- the footprint that they give to a name, none where it is not there
abbrev pub footprint_in : List Signature → List ℕ → List ℕ
footprint_in signatures name = option_map_or (λ signature. signature.footprint) (signature_in signatures name) []

-- each has the footprint that its name means
abbrev pub AreMeant : Meanings → List Signature → Type 0
AreMeant tests signatures = All (λ signature. signature.footprint ≡ tests.footprint signature.name) signatures

-- each variable of each is below a number
abbrev pub AreWithin : ℕ → List Signature → Type 0
AreWithin vars signatures = All (λ signature. AreBelow vars signature.footprint) signatures
