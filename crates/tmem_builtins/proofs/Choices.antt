-- A choice among several, taken apart from its end.
use Rattle.std.proofs.Common.{◌≡◌, ℕ, ◌+◌, List, [], ◌∷◌, ◌++◌, sum_by, refl, sym, ap, ◌∙◌, append-nil, arith}
use Rattle.std.proofs.lemmas.List.Sums.{sum_by_push}
use Rattle.tmem_tree.specs.declared.tx.Tx.{Tx}
use Rattle.tmem_tree.specs.StepAnswers.{StepMeanings}
use Rattle.tmem_tree.specs.Run.{View, RunResult, Normal, Retried, Aborted, Broken, run, or_else}
use Rattle.tmem_tree.specs.Visited.{Ask, asks, else_ask}
use Rattle.tmem_invariants.specs.Meanings.{Meanings}
use Rattle.tmem_builtins.specs.Transactions.{run_first, first_asks}

-- the ending of these, or of what stands behind them
abbrev pub ending_then : StepMeanings → Meanings → List Tx → RunResult → View → RunResult
ending_then steps tests [] last view = last
ending_then steps tests (tx ∷ txs) last view = or_else (run steps tests tx view) (ending_then steps tests txs last view)

pub ending_then-append : (steps : StepMeanings) (tests : Meanings) (txs : List Tx) (tx : Tx) (last : RunResult) (view : View) → ending_then steps tests (txs ++ tx ∷ []) last view ≡ ending_then steps tests txs (or_else (run steps tests tx view) last) view
ending_then-append steps tests [] tx last view = refl
ending_then-append steps tests (t ∷ txs) tx last view = ap (or_else (run steps tests t view)) (ending_then-append steps tests txs tx last view)

or_else-retried : (a : RunResult) → or_else a Retried ≡ a
or_else-retried (Normal view) = refl
or_else-retried Retried = refl
or_else-retried (Aborted code) = refl
or_else-retried (Broken name) = refl

pub run_first_last : (steps : StepMeanings) (tests : Meanings) (txs : List Tx) (tx : Tx) (view : View) → ending_then steps tests txs (run steps tests tx view) view ≡ run_first steps tests (txs ++ tx ∷ []) view
run_first_last steps tests [] tx view = sym (or_else-retried (run steps tests tx view))
run_first_last steps tests (t ∷ txs) tx view = ap (or_else (run steps tests t view)) (run_first_last steps tests txs tx view)

-- the same of what they ask
abbrev pub asks_then : StepMeanings → Meanings → List Tx → List Ask → View → List Ask
asks_then steps tests [] last view = last
asks_then steps tests (tx ∷ txs) last view = asks steps tests tx view ++ else_ask (run steps tests tx view) (asks_then steps tests txs last view)

asks_then-append : (steps : StepMeanings) (tests : Meanings) (txs : List Tx) (tx : Tx) (last : List Ask) (view : View) → asks_then steps tests (txs ++ tx ∷ []) last view ≡ asks_then steps tests txs (asks steps tests tx view ++ else_ask (run steps tests tx view) last) view
asks_then-append steps tests [] tx last view = refl
asks_then-append steps tests (t ∷ txs) tx last view = ap (λ l. asks steps tests t view ++ else_ask (run steps tests t view) l) (asks_then-append steps tests txs tx last view)

else_ask-nil : (a : RunResult) (xs : List Ask) → xs ++ else_ask a [] ≡ xs
else_ask-nil (Normal view) xs = append-nil xs
else_ask-nil Retried xs = append-nil xs
else_ask-nil (Aborted code) xs = append-nil xs
else_ask-nil (Broken name) xs = append-nil xs

first_asks_last : (steps : StepMeanings) (tests : Meanings) (txs : List Tx) (tx : Tx) (view : View) → asks_then steps tests txs (asks steps tests tx view) view ≡ first_asks steps tests (txs ++ tx ∷ []) view
first_asks_last steps tests [] tx view = sym (else_ask-nil (run steps tests tx view) (asks steps tests tx view))
first_asks_last steps tests (t ∷ txs) tx view = ap (λ l. asks steps tests t view ++ else_ask (run steps tests t view) l) (first_asks_last steps tests txs tx view)

-- ---- a turn, which takes the last of those that are left

pub begun : (steps : StepMeanings) (tests : Meanings) (all left : List Tx) (tx : Tx) (view : View) → all ≡ left ++ tx ∷ [] → ending_then steps tests left (run steps tests tx view) view ≡ run_first steps tests all view
begun steps tests all left tx view is = run_first_last steps tests left tx view ∙ ap (λ l. run_first steps tests l view) (sym is)

pub turn : (steps : StepMeanings) (tests : Meanings) (txs left : List Tx) (tx chosen chosen' : Tx) (view : View) (all : RunResult) → txs ≡ left ++ tx ∷ [] → run steps tests chosen' view ≡ or_else (run steps tests tx view) (run steps tests chosen view)
    → ending_then steps tests txs (run steps tests chosen view) view ≡ all → ending_then steps tests left (run steps tests chosen' view) view ≡ all
turn steps tests txs left tx chosen chosen' view all is made before =
    ap (λ r. ending_then steps tests left r view) made ∙ sym (ending_then-append steps tests left tx (run steps tests chosen view) view)
    ∙ ap (λ l. ending_then steps tests l (run steps tests chosen view) view) (sym is) ∙ before

pub begun_asks : (steps : StepMeanings) (tests : Meanings) (all left : List Tx) (tx : Tx) (view : View) → all ≡ left ++ tx ∷ [] → asks_then steps tests left (asks steps tests tx view) view ≡ first_asks steps tests all view
begun_asks steps tests all left tx view is = first_asks_last steps tests left tx view ∙ ap (λ l. first_asks steps tests l view) (sym is)

pub turn_asks : (steps : StepMeanings) (tests : Meanings) (txs left : List Tx) (tx chosen chosen' : Tx) (view : View) (all : List Ask) → txs ≡ left ++ tx ∷ [] → asks steps tests chosen' view ≡ asks steps tests tx view ++ else_ask (run steps tests tx view) (asks steps tests chosen view)
    → asks_then steps tests txs (asks steps tests chosen view) view ≡ all → asks_then steps tests left (asks steps tests chosen' view) view ≡ all
turn_asks steps tests txs left tx chosen chosen' view all is made before =
    ap (λ l. asks_then steps tests left l view) made ∙ sym (asks_then-append steps tests left tx (asks steps tests chosen view) view)
    ∙ ap (λ l. asks_then steps tests l (asks steps tests chosen view) view) (sym is) ∙ before

pub begun_sum : (f : Tx → ℕ) (all left : List Tx) (tx : Tx) → all ≡ left ++ tx ∷ [] → sum_by f left + f tx ≡ sum_by f all
begun_sum f all left tx is = sym (sum_by_push f left tx) ∙ ap (sum_by f) (sym is)

pub turn_sum : (f : Tx → ℕ) (txs left : List Tx) (tx : Tx) (chosen chosen' all : ℕ) → txs ≡ left ++ tx ∷ [] → chosen' ≡ f tx + chosen → sum_by f txs + chosen ≡ all → sum_by f left + chosen' ≡ all
turn_sum f txs left tx chosen chosen' all is made before =
    let taken = begun_sum f txs left tx is in
    omega (arith, taken, made, before)
