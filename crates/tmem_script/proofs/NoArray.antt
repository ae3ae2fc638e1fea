-- What is no array.
use Rattle.std.proofs.Common.{◌≡◌, List, Vec, Global, rules}
use Rattle.serde_json.specs.Data.{Data}
use Rattle.serde_json.specs.View.{view}
use Rattle.serde_json.specs.declared.value.Value.{Value, Array}
use Rattle.serde_json.specs.declared.value.Value.TheFolds.{the_lemmas}
use Rattle.tmem_forms.specs.TxForms.{array_of}

-- what is no array is no array of these
pub not_array : (v : Value) (ds : List Data) → ((items : Vec Value Global) → ¬ (v ≡ Array items)) → ¬ (view v ≡ array_of ds)
not_array v ds other is = search (rules, the_lemmas)
