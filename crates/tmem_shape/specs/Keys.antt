-- The keys of objects.
use Rattle.std.specs.Prelude.{ℕ, List, codes}
use Rattle.tmem_shape.specs.declared.key.Key.{Key}
use Rattle.tmem_shape.specs.declared.key.Key.TheVariants as key

-- the letters of a key
abbrev pub key_text : Key → List ℕ
key_text key.Vars = codes "vars"
key_text key.Slots = codes "slots"
key_text key.Invariants = codes "invariants"
key_text key.Names = codes "names"
key_text key.Name = codes "name"
key_text key.Sum = codes "sum"
key_text key.Least = codes "least"
key_text key.Most = codes "most"
key_text key.Always = codes "always"
