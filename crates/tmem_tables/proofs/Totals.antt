-- Sums, a term at a time.
use Rattle.std.proofs.Common.{◌≡◌, ℕ, zero, suc, ◌+◌, ◌*◌, ◌≤◌, ◌<◌, ◌^◌, ℤ, pos, ◌+ℤ◌, List, [], ◌∷◌, length, take, get_or, sym, ap, ◌∙◌, arith, FitsSigned, to_z, of_z}
use mir.Syntax.{w128}
use Rattle.std.proofs.lemmas.Int.{to_z-of_z}
use Rattle.std.proofs.Math.IntN.{+ℤ_assoc, +ℤ_comm}
use Rattle.tmem_tables.specs.Sums.{weighted, weighted_sum}
use Rattle.tmem_tables.specs.declared.weight.Weight.{Weight}

none_below : {P : Type 0} {i : ℕ} → i < 0 → P
none_below below = absurd (omega (arith, below))

-- one more term
pub sum_more : (ws : List Weight) (xs : List ℤ) (i : ℕ) (w : Weight) (x : ℤ) → i < length ws → length xs ≡ length ws → weighted_sum (take (suc i) ws) (take (suc i) xs) ≡ weighted_sum (take i ws) (take i xs) +ℤ weighted (get_or ws i w) (get_or xs i x)
sum_more [] xs i w x below same = none_below below
sum_more (v ∷ ws) [] i w x below same = absurd (omega (arith, same))
sum_more (v ∷ ws) (y ∷ xs) zero w x below same = +ℤ_comm (weighted v y) (pos 0)
sum_more (v ∷ ws) (y ∷ xs) (suc i) w x below same =
    ap (λ t. weighted v y +ℤ t) (sum_more ws xs i w x (omega (arith, below)) (omega (arith, same)))
    ∙ sym (+ℤ_assoc (weighted v y) (weighted_sum (take i ws) (take i xs)) (weighted (get_or ws i w) (get_or xs i x)))

pub sum_step : (ws : List Weight) (xs : List ℤ) (i : ℕ) (w : Weight) (x term t r : ℤ) → i < length ws → length xs ≡ length ws → term ≡ weighted (get_or ws i w) (get_or xs i x) → t ≡ weighted_sum (take i ws) (take i xs) → r ≡ t +ℤ term → r ≡ weighted_sum (take (i + 1) ws) (take (i + 1) xs)
sum_step ws xs i w x term t r below same here before step =
    let next : i + 1 ≡ suc i = omega arith in
    step
    ∙ ap (λ z. z +ℤ term) before
    ∙ ap (λ z. weighted_sum (take i ws) (take i xs) +ℤ z) here
    ∙ sym (sum_more ws xs i w x below same)
    ∙ ap (λ n. weighted_sum (take n ws) (take n xs)) (sym next)

pub passed_on : (r : ℤ) → FitsSigned w128 r → to_z w128 (of_z w128 r) ≡ r
passed_on r fits = grind (arith, to_z-of_z)

pub size_step : (i n m : ℕ) → n ≤ i * 2 ^ 94 → m ≤ n + 2 ^ 94 → m ≤ (i + 1) * 2 ^ 94
size_step i n m before step = omega (arith, before, step)
