-- Sums of what workers answered.
use Rattle.std.proofs.Common.{◌≡◌, ℕ, ◌<◌, ◌≤◌, ◌+◌, ◌*◌, List, length, take, Result, Ok, Err, get_or, arith, ap, refl, sym, subst, ◌∙◌}
use Rattle.std.specs.Prelude.{IfOk, IsOk, All}
use Rattle.std.specs.Result.{result_unwrap_or}
use Rattle.std.proofs.lemmas.Nat.{mul-le}
use Rattle.std.proofs.lemmas.Result.{IfOk-weaker}
use Rattle.std.proofs.lemmas.List.Elements.{All-more, All-weaker}
use Rattle.std.proofs.lemmas.List.Sums.{sum_by-le, sum_by_more}
use Rattle.tmem_fault.specs.declared.fault.Fault.{Fault}
use Rattle.tmem_bench.specs.Counting.{AreCounted, committed_together}

-- the number of an answer
abbrev number : Result ℕ Fault → ℕ
number answer = result_unwrap_or answer 0

at_most : (turns : ℕ) (r : Result ℕ Fault) → IfOk r (λ n. n ≤ turns) → number r ≤ turns
at_most turns (Ok n) most = most
at_most turns (Err f) most = omega arith

-- as many answers, each of so much at most
pub sum_at_most : (answers : List (Result ℕ Fault)) (turns : ℕ) → All (λ r. IfOk r (λ n. n ≤ turns)) answers → committed_together answers ≤ length answers * turns
sum_at_most answers turns each =
    sum_by-le number turns answers (All-weaker (λ (r : Result ℕ Fault). IfOk r (λ n. n ≤ turns)) (λ (r : Result ℕ Fault). number r ≤ turns) (at_most turns) answers each)

-- so many workers, of which each answered so much at most
pub counted_at_most : (IsAnswer : ℕ → Type 0) (workers turns committed : ℕ) → ((n : ℕ) → IsAnswer n → n ≤ turns) → AreCounted IsAnswer workers committed → committed ≤ workers * turns
counted_at_most IsAnswer workers turns committed most counted =
    let each = All-weaker (λ (r : Result ℕ Fault). IfOk r IsAnswer) (λ (r : Result ℕ Fault). IfOk r (λ n. n ≤ turns)) (λ r is. IfOk-weaker r _ _ most is) counted.answers counted.each in
    let sum : committed_together counted.answers ≤ workers * turns = subst (λ (n : ℕ). committed_together counted.answers ≤ n * turns) counted.many (sum_at_most counted.answers turns each) in
    subst (λ (n : ℕ). n ≤ workers * turns) (sym counted.sum) sum

-- what was answered, where a sum is
pub are_counted : (IsAnswer : ℕ → Type 0) (answers : List (Result ℕ Fault)) (workers : ℕ) (r : Result ℕ Fault) → length answers ≡ workers → All (λ answer. IfOk answer IsAnswer) answers → IfOk r (λ n. n ≡ committed_together answers) → IfOk r (λ _. All (λ answer. IsOk answer) answers) → IfOk r (AreCounted IsAnswer workers)
are_counted IsAnswer answers workers (Ok n) many each sum all = record { answers = answers; many = many; all = all; each = each; sum = sum }
are_counted IsAnswer answers workers (Err f) many each sum all = tt

-- a sum of some of them, and the next one
pub sum_more : (answers : List (Result ℕ Fault)) (i n : ℕ) (r : Result ℕ Fault) → i < length answers → r ≡ get_or answers i r → r ≡ Ok n → committed_together (take i answers) + n ≡ committed_together (take (i + 1) answers)
sum_more answers i n r less at is =
    sym (sum_by_more number answers i r less ∙ ap (λ (x : Result ℕ Fault). committed_together (take i answers) + number x) (sym at ∙ is))

pub all_more : (answers : List (Result ℕ Fault)) (i n : ℕ) (r : Result ℕ Fault) → i < length answers → r ≡ get_or answers i r → r ≡ Ok n → All (λ a. IsOk a) (take i answers) → All (λ a. IsOk a) (take (i + 1) answers)
all_more answers i n r less at is all =
    let here : Ok n ≡ get_or answers i r = sym is ∙ at in
    All-more (λ (a : Result ℕ Fault). IsOk a) answers i r less all (subst (λ (a : Result ℕ Fault). IsOk a) here refl)

-- it is a number of 64 bits
pub sum_fits : (answers : List (Result ℕ Fault)) (workers turns : ℕ) → All (λ r. IfOk r (λ n. n ≤ turns)) answers → length answers ≡ workers → workers < 65536 → turns < 65536 → committed_together answers < 18446744073709551616
sum_fits answers workers turns each many few short =
    let most = sum_at_most answers turns each in
    let part : length answers * turns ≤ 65536 * 65536 = mul-le (length answers) turns 65536 65536 (omega (arith, many, few)) (omega (arith, short)) in
    omega (arith, most, part)
