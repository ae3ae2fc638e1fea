-- What reads have of what was seen.
use Rattle.std.proofs.Common.{◌≡◌, ℕ, ℤ, List, Some, nat_eq, cond, refl, ap, ◌∙◌}
use Rattle.std.proofs.lemmas.Bool.{eq-eqb}
use Rattle.indexmap.specs.IndexMap.{insert_entry}
use Rattle.tmem_effect.specs.Writes.{value_in}
use Rattle.tmem_tentative.specs.Places.{Covers}
use Rattle.tmem_tentative.proofs.ReadEntries.{value_in-insert}

pub covers_refl : (xs : List (ℕ × ℤ)) → Covers xs xs
covers_refl xs = record { at = λ v n h. h }

pub value_in-saw : (seen : List (ℕ × ℤ)) (k : ℕ) (n : ℤ) → value_in (insert_entry nat_eq seen k n) k ≡ Some n
value_in-saw seen k n = value_in-insert seen k n k ∙ ap (λ b. cond b (Some n) (value_in seen k)) (eq-eqb k k refl)
