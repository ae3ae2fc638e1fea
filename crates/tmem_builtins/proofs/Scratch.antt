-- What is read of the last two registers, and what a further number in one of them leaves.
use Rattle.std.proofs.Common.{◌≡◌, ℕ, ℤ, pos, List, [], ◌∷◌, length, set, map, ap, ◌∙◌, refl, arith}
use Rattle.std.proofs.lemmas.List.{length-set, get_or-set_same, get_or-set_other, set-set, set_comm}
use Rattle.tmem_tree.specs.declared.tx.Tx.{Tx}
use Rattle.tmem_tree.specs.declared.step.StepAnswer.{StepAnswer}
use Rattle.tmem_tree.specs.declared.step.StepAnswer.TheVariants.{Value, Retry, Abort}
use Rattle.tmem_tree.specs.Run.{View, RunResult, Normal, Retried, Aborted, run, put, register, answered}
use Rattle.tmem_invariants.specs.Meanings.{Meanings}
use Rattle.tmem_builtins.specs.Builtins.{builtin_steps}
use Rattle.tmem_builtins.specs.Transactions.{IsStepCall, scratched}

pub value_read : (rs : List ℤ) (x n : ℤ) → length rs ≡ 16 → register (set (set rs 14 x) 15 n) 14 ≡ x
value_read rs x n full = get_or-set_other (set rs 14 x) 15 14 n (pos 0) (λ e. omega arith) ∙ get_or-set_same rs 14 x (pos 0) (omega arith)

pub number_read : (rs : List ℤ) (x n : ℤ) → length rs ≡ 16 → register (set (set rs 14 x) 15 n) 15 ≡ n
number_read rs x n full = get_or-set_same (set rs 14 x) 15 n (pos 0) (omega (arith, length-set rs 14 x))

pub alone_read : (rs : List ℤ) (n : ℤ) → length rs ≡ 16 → register (set rs 15 n) 15 ≡ n
alone_read rs n full = get_or-set_same rs 15 n (pos 0) (omega arith)

value_again : (rs : List ℤ) (x n y : ℤ) → set (set (set rs 14 x) 15 n) 14 y ≡ set (set rs 14 y) 15 n
value_again rs x n y =
    ap (λ l. set l 14 y) (set_comm rs 14 15 x n (λ e. omega arith)) ∙ set-set (set rs 15 n) 14 x y ∙ set_comm rs 15 14 n y (λ e. omega arith)

pub put_value : (view : View) (x n y : ℤ) → put (scratched view x n) 14 y ≡ scratched view y n
put_value view x n y = ap (λ rs. record { values = view.values; registers = rs; effect = view.effect }) (value_again view.registers x n y)

pub put_number : (view : View) (x n y : ℤ) → put (scratched view x n) 15 y ≡ scratched view x y
put_number view x n y = ap (λ rs. record { values = view.values; registers = rs; effect = view.effect }) (set-set (set view.registers 14 x) 15 n y)

-- goes on with the value of an answer
abbrev pub on_value : StepAnswer → (ℤ → RunResult) → RunResult
on_value (Value y) next = next y
on_value Retry next = Retried
on_value (Abort code) next = Aborted code

answered_value : (a : StepAnswer) (view : View) (x n : ℤ) → answered a (scratched view x n) 14 ≡ on_value a (λ y. Normal (scratched view y n))
answered_value (Value y) view x n = ap Normal (put_value view x n y)
answered_value Retry view x n = refl
answered_value (Abort code) view x n = refl

answered_number : (a : StepAnswer) (view : View) (x n : ℤ) → answered a (scratched view x n) 15 ≡ on_value a (λ y. Normal (scratched view x y))
answered_number (Value y) view x n = ap Normal (put_number view x n y)
answered_number Retry view x n = refl
answered_number (Abort code) view x n = refl

run_call : (index first second : ℕ) (tx : Tx) → IsStepCall index first second tx → (tests : Meanings) (view : View) → run builtin_steps tests tx view ≡ answered (builtin_steps index (register view.registers first ∷ register view.registers second ∷ [])) view first
run_call index first second tx call tests view =
    ap (λ t. run builtin_steps tests t view) call.is ∙ ap (λ l. answered (builtin_steps index (map (register view.registers) l)) view first) call.on

-- a step of the value and the number
pub call_value : (index : ℕ) (tx : Tx) → IsStepCall index 14 15 tx → (tests : Meanings) (view : View) (x n : ℤ) → length view.registers ≡ 16 → run builtin_steps tests tx (scratched view x n) ≡ on_value (builtin_steps index (x ∷ n ∷ [])) (λ y. Normal (scratched view y n))
call_value index tx call tests view x n full =
    run_call index 14 15 tx call tests (scratched view x n)
    ∙ ap (λ l. answered (builtin_steps index (l ∷ register (scratched view x n).registers 15 ∷ [])) (scratched view x n) 14) (value_read view.registers x n full)
    ∙ ap (λ l. answered (builtin_steps index (x ∷ l ∷ [])) (scratched view x n) 14) (number_read view.registers x n full)
    ∙ answered_value (builtin_steps index (x ∷ n ∷ [])) view x n

-- a step of the number and the value
pub call_number : (index : ℕ) (tx : Tx) → IsStepCall index 15 14 tx → (tests : Meanings) (view : View) (x n : ℤ) → length view.registers ≡ 16 → run builtin_steps tests tx (scratched view x n) ≡ on_value (builtin_steps index (n ∷ x ∷ [])) (λ y. Normal (scratched view x y))
call_number index tx call tests view x n full =
    run_call index 15 14 tx call tests (scratched view x n)
    ∙ ap (λ l. answered (builtin_steps index (l ∷ register (scratched view x n).registers 14 ∷ [])) (scratched view x n) 15) (number_read view.registers x n full)
    ∙ ap (λ l. answered (builtin_steps index (n ∷ l ∷ [])) (scratched view x n) 15) (value_read view.registers x n full)
    ∙ answered_number (builtin_steps index (n ∷ x ∷ [])) view x n
