use Rattle.std.proofs.Common.{◌≡◌, ◌∷◌, [], Some, length, arith}
use Rattle.tmem_forms.proofs.ArrayForms.{length-items, items_found}
use Rattle.tmem_forms.proofs.pieces.pair_of.Goals as goal

pub returns-then-len-ne2-clause-refused : goal.returns-then-len-ne2-clause-refused
returns-then-len-ne2-clause-refused c = λ x y is.
    let items = c.in_ok-items.items in
    let found : c.as_array.result ≡ Some items = grind arith in
    let same = items_found _ c.as_array.result items (x ∷ y ∷ []) c.as_array.ensures found is in
    let long : length items.now.items ≡ 2 = length-items items.now.items (x ∷ y ∷ []) same in
    omega (arith, c.len.ensures, c.if-len-ne2.true)
