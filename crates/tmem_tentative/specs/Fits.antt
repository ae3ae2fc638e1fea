-- What holds of each answer of an evaluation, whatever the steps mean.
use Rattle.std.specs.Prelude.{◌≡◌, ⊤, ℕ, ℤ, ◌<◌, ◌≤◌, true, List, length, None, nat_eq, All}
use Rattle.std.specs.List.{IsDistinct}
use Rattle.std.specs.Map.{keys_of}
use Rattle.tmem_effect.specs.Names.{has_name, AreApart}
use Rattle.tmem_effect.specs.Writes.{value_in}
use Rattle.tmem_effect.specs.declared.effect.Effect.{Effect}
use Rattle.tmem_tree.specs.declared.signature.Signature.{Signature}
use Rattle.tmem_tree.specs.Signatures.{names_of, footprint_in}
use Rattle.tmem_tentative.specs.declared.attempt.Outcome.{Outcome}
use Rattle.tmem_tentative.specs.declared.attempt.Outcome.TheVariants.{Need, Ended}
use Rattle.tmem_tentative.specs.declared.attempt.Outcome.TheVariants as outcome
use Rattle.tmem_tentative.specs.declared.attempt.Attempt.{Attempt}
use Rattle.tmem_tentative.specs.declared.attempt.Ending.{Ending}
use Rattle.tmem_tentative.specs.declared.attempt.Ending.TheVariants.{Normal, Retry, Abort, Broken}
use Rattle.tmem_tentative.specs.Right.{IsBlank}

-- each variable is written once, no name is both proposed and retired, and no more variables and names than a plan may have
pub record IsPlansEffect (effect : Effect) : Type 0 where
  pub once : IsDistinct nat_eq (keys_of effect.writes)
  pub few : length effect.writes ≤ 64
  pub few_names : length effect.names ≤ 8
  pub few_retired : length effect.retired ≤ 8
  pub apart : AreApart effect.names effect.retired

abbrev pub IsBlankUnlessNormal : Ending → Attempt → Type 0
IsBlankUnlessNormal Normal a = Unit {0}
IsBlankUnlessNormal Retry a = IsBlank a
IsBlankUnlessNormal (Abort code) a = IsBlank a
IsBlankUnlessNormal (Broken name) a = IsBlank a

-- a variable that the reads lack, a test, or an attempt whose effect a plan may have
abbrev pub IsFit : List (ℕ × ℤ) → Outcome → Type 0
IsFit reads (Need var) = value_in reads var ≡ None
IsFit reads (outcome.Probe probe) = ⊤
IsFit reads (Ended a) = IsPlansEffect a.effect × IsBlankUnlessNormal a.ending a

-- each variable that it read or wrote is one of so many
abbrev pub IsForVariables : ℕ → Attempt → Type 0
IsForVariables vars a =
    All (λ var. var < vars) (keys_of a.reads.entries) × All (λ var. var < vars) (keys_of a.effect.writes)

-- each variable is one of so many
abbrev pub IsWithinVariables : ℕ → Outcome → Type 0
IsWithinVariables vars (Need var) = var < vars
IsWithinVariables vars (outcome.Probe probe) = ⊤
IsWithinVariables vars (Ended a) = IsForVariables vars a

-- the name of an invariant that was false is one of these
abbrev pub IsEndingFor : List (List ℕ) → Ending → Type 0
IsEndingFor names (Broken name) = has_name names name ≡ true
IsEndingFor names _ = ⊤

-- each name that it proposes or retires is one of these, none of them both, and so is the one at which it was broken
pub record IsForNames (names : List (List ℕ)) (a : Attempt) : Type 0 where
  pub proposed : All (λ name. has_name names name ≡ true) a.effect.names
  pub retired : All (λ name. has_name names name ≡ true) a.effect.retired
  pub apart : AreApart a.effect.names a.effect.retired
  pub ending : IsEndingFor names a.ending

-- each name is one of these
abbrev pub IsNamed : List (List ℕ) → Outcome → Type 0
IsNamed names (Need var) = ⊤
IsNamed names (outcome.Probe probe) = has_name names probe.name ≡ true
IsNamed names (Ended a) = IsForNames names a

-- a test is of a name that has a signature, and is given as many values as that has variables
abbrev pub IsFilled : List Signature → Outcome → Type 0
IsFilled signatures (outcome.Probe probe) =
    (has_name (names_of signatures) probe.name ≡ true) × (length probe.values ≡ length (footprint_in signatures probe.name))
IsFilled signatures _ = ⊤
