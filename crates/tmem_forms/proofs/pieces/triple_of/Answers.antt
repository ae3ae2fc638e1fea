use Rattle.std.proofs.Common.{◌≡◌, ◌∷◌, [], Some, length, arith}
use Rattle.tmem_forms.proofs.ArrayForms.{length-items, items_found}
use Rattle.tmem_forms.proofs.pieces.triple_of.Goals as goal

pub returns-then-len-ne3-clause-refused : goal.returns-then-len-ne3-clause-refused
returns-then-len-ne3-clause-refused c = λ x y z is.
    let items = c.in_ok-items.items in
    let found : c.as_array.result ≡ Some items = grind arith in
    let same = items_found _ c.as_array.result items (x ∷ y ∷ z ∷ []) c.as_array.ensures found is in
    let long : length items.now.items ≡ 3 = length-items items.now.items (x ∷ y ∷ z ∷ []) same in
    omega (arith, c.len.ensures, c.if-len-ne3.true)
