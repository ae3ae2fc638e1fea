-- Data that the first tokens of a list spell.
use Rattle.std.specs.Prelude.{◌≡◌, ℕ, List, length, Some}
use Rattle.json.specs.Json as grammar
use Rattle.json.specs.Token.{Token}
use Rattle.serde_json.specs.Data.{Data, Items, Members, no_members}
use Rattle.serde_json.specs.Read.{of_json, of_items, of_members}

-- The tokens `old` begin with a value, nested no deeper than the number, that is d, and `new` follow it.
pub record SpellsValue (depth : ℕ) (old : List Token) (d : Data) (new : List Token) : Type 0 where
  pub form : grammar.Json
  pub reads : grammar.value depth old ≡ Some (form, new)
  pub is : of_json form ≡ Some d

-- the same of the items of an array, with its end
pub record SpellsItems (depth : ℕ) (old : List Token) (ds : Items) (new : List Token) : Type 0 where
  pub form : grammar.Items
  pub reads : grammar.items (grammar.value depth) (length old) old ≡ Some (form, new)
  pub are : of_items form ≡ Some ds

-- the same of the members of an object, with its end
pub record SpellsMembers (depth : ℕ) (old : List Token) (ds : Members) (new : List Token) : Type 0 where
  pub form : grammar.Members
  pub reads : grammar.members (grammar.value depth) (length old) old ≡ Some (form, new)
  pub are : of_members form no_members ≡ Some ds
