use Rattle.std.proofs.Common.{◌≡◌, map, take}
use Rattle.tmem_forms.specs.TxForms.{tx_form}
use Rattle.tmem_desk.proofs.copying.+copy_of.Given as goal

-- those so far have the same forms
abbrev pub invariant-loop-t : goal.invariant-loop-t
invariant-loop-t l = map tx_form l.all.items ≡ map tx_form (take l.t-index l.t-items)
