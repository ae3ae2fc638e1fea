-- The keys of objects.
use Rattle.std.specs.Prelude.{◌≡◌, true, ℕ, List, [], ◌∷◌, All}
use Rattle.serde_json.specs.Data.{Data, object, Members, member, no_members}
use Rattle.tmem_fault.specs.Name.{has_name}

-- the keys of these members
abbrev pub member_keys : Members → List (List ℕ)
member_keys no_members = []
member_keys (member k d ms) = k ∷ member_keys ms

-- each of them is one of these
abbrev pub AreAmong : List (List ℕ) → List (List ℕ) → Type 0
AreAmong keys found = All (λ key. has_name keys key ≡ true) found

-- an object, each of whose keys is one of these
pub record HasOnly (keys : List (List ℕ)) (d : Data) : Type 0 where
  pub members : Members
  pub is_object : d ≡ object members
  pub known : AreAmong keys (member_keys members)
