-- The front of what was read behind a gate.
use Rattle.std.proofs.Common.{◌≡◌, ◌≤◌, ◌+◌, ◌-◌, ℕ, List, length, take, drop, sym, ◌∙◌, ap, arith}
use Rattle.std.specs.Prelude.{slice_range}
use Rattle.std.proofs.lemmas.List.{take-take}

-- as the content has it
pub front_of : (c : List ℕ) (cell at n : ℕ) (front body : List ℕ) → at ≡ cell → body ≡ slice_range c (at + 1) (at + 1 + n) → length front ≤ n → take (length front) body ≡ slice_range c (cell + 1) (cell + 1 + length front)
front_of c cell at n front body offset read short =
    let all : at + 1 + n - (at + 1) ≡ n = omega arith in
    let part : cell + 1 + length front - (cell + 1) ≡ length front = omega arith in
    ap (take (length front)) (read ∙ ap (λ (k : ℕ). take k (drop (at + 1) c)) all) ∙ take-take (length front) n (drop (at + 1) c) short
    ∙ ap (λ (k : ℕ). take (length front) (drop (k + 1) c)) offset ∙ ap (λ (k : ℕ). take k (drop (cell + 1) c)) (sym part)
