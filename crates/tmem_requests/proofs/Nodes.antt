-- How many nodes of a transaction retire one of some names, node by node.
use Rattle.std.proofs.Common.{◌≡◌, ℕ, ◌+◌, ◌<◌, Bool, true, false, List, ◌∷◌, length, get_or, drop, Vec, Box, Global, sym, ap, ◌∙◌, arith}
use Rattle.std.specs.Prelude.{◌↔◌}
use Rattle.std.proofs.lemmas.Bool.{false≢true}
use Rattle.std.proofs.lemmas.List.{drop_more}
use Rattle.tmem_tree.proofs.Laws.{count_items}
use Rattle.tmem_tree.specs.Limits.{count}
use Rattle.tmem_tree.specs.declared.tx.Tx.{Tx}
use Rattle.tmem_tree.specs.declared.tx.Tx.TheOpen.{Tx-F}
use Rattle.tmem_tree.specs.declared.tx.Tx.TheOpen as level
use Rattle.tmem_tree.specs.declared.tx.Tx.TheVariants.{Seq, When, OrElse, Retire}
use Rattle.tmem_tree.specs.declared.tx.Tx.TheViews.{out-Tx, roll-Tx, roll-out-Tx, rolls-Skip, rolls-Seq, rolls-Put, rolls-Read, rolls-Write, rolls-Step, rolls-When, rolls-OrElse, rolls-Retry, rolls-Abort, rolls-Check, rolls-Retire}
use Rattle.tmem_requests.specs.Fits.{RetiresNone, retires_one_of}

-- one that retires nothing and holds no other
pub retires_nothing : (always : List (List ℕ)) (tx : Tx) → ((name : List ℕ) → tx ≡ Retire name → ⊥) → ((txs : Vec Tx Global) → tx ≡ Seq txs → ⊥) → ((reg : ℕ) (then other : Box Tx Global) → tx ≡ When reg then other → ⊥) → ((first second : Box Tx Global) → tx ≡ OrElse first second → ⊥) → RetiresNone always tx
retires_nothing always tx no_retire no_seq no_when no_or_else = on (out-Tx tx) (sym (roll-out-Tx tx))
  where
    counted : Tx → ℕ
    counted = count (retires_one_of always)

    on : (x : Tx-F Tx) → tx ≡ roll-Tx x → count (retires_one_of always) tx ≡ 0
    on level.Skip is = ap counted (is ∙ rolls-Skip)
    on (level.Seq txs) is = absurd (no_seq txs (is ∙ rolls-Seq txs))
    on (level.Put reg n) is = ap counted (is ∙ rolls-Put reg n)
    on (level.Read var reg) is = ap counted (is ∙ rolls-Read var reg)
    on (level.Write var reg) is = ap counted (is ∙ rolls-Write var reg)
    on (level.Step index args out) is = ap counted (is ∙ rolls-Step index args out)
    on (level.When reg then other) is = absurd (no_when reg then other (is ∙ rolls-When reg then other))
    on (level.OrElse first second) is = absurd (no_or_else first second (is ∙ rolls-OrElse first second))
    on level.Retry is = ap counted (is ∙ rolls-Retry)
    on (level.Abort code) is = ap counted (is ∙ rolls-Abort code)
    on (level.Check name) is = ap counted (is ∙ rolls-Check name)
    on (level.Retire name) is = absurd (no_retire name (is ∙ rolls-Retire name))

-- the first of those that are left, and those behind it
pub count_items-drop_more : (test : Tx → Bool) (txs : List Tx) (i : ℕ) (tx : Tx) → i < length txs → tx ≡ get_or txs i tx → count_items test (drop i txs) ≡ count test tx + count_items test (drop (i + 1) txs)
count_items-drop_more test txs i tx within is =
    ap (count_items test) (drop_more txs i tx within ∙ ap (λ t. t ∷ drop (i + 1) txs) (sym is))

-- where the first of them has none, the others decide
pub none_here : (P : Type 0) (n m k : ℕ) (r : Bool) → n ≡ m + k → ((r ≡ true) ↔ (m ≡ 0)) → r ≡ true → (P ↔ (n ≡ 0)) → P ↔ (k ≡ 0)
none_here P n m k r sum first is whole =
    let none = first.0 is in
    (λ p. omega (arith, sum, whole.0 p), λ others. whole.1 (omega (arith, sum, none, others)))

-- and where it has one, there is one
pub one_here : (P : Type 0) (n m k : ℕ) (r : Bool) → n ≡ m + k → ((r ≡ true) ↔ (m ≡ 0)) → r ≡ false → (P ↔ (n ≡ 0)) → (false ≡ true) ↔ P
one_here P n m k r sum first is whole = (
  λ no. absurd (false≢true no),
  λ p. absurd (false≢true (sym is ∙ first.1 (omega (arith, sum, whole.0 p)))),
)
