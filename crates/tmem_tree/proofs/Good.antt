-- What a count of bad nodes comes to, where the node itself is fine.
use Rattle.std.proofs.Common.{◌≡◌, ℕ, ◌+◌, ◌-◌, ◌≤◌, max, Bool, false, Option, Some, None, IfSome, Vec, Box, Global, refl, sym, subst, ap, ◌∙◌, rules, arith}
use Rattle.tmem_tree.specs.declared.tx.Tx.{Tx}
use Rattle.tmem_tree.specs.declared.tx.Tx.TheVariants.{Seq, When, OrElse}
use Rattle.tmem_tree.specs.declared.tx.Tx.TheViews.{the_lemmas, out-Tx, roll-Tx, roll-out-Tx, rolls-Skip, rolls-Seq, rolls-Put, rolls-Read, rolls-Write, rolls-Step, rolls-When, rolls-OrElse, rolls-Retry, rolls-Abort, rolls-Check, rolls-Retire}
use Rattle.tmem_tree.specs.declared.tx.Tx.TheOpen.{Tx-F}
use Rattle.tmem_tree.specs.declared.tx.Tx.TheOpen as level
use Rattle.tmem_tree.specs.Limits.{depth, one_if, count}

pub if_both : {X : Type 0} (o : Option X) {P Q : Type 0} → (P → Q) → IfSome o (λ _. P) → IfSome o (λ _. Q)
if_both (Some x) then p = then p
if_both None then p = tt

-- two values equal to one are equal
pub said : {a b v : Bool} → a ≡ b → a ≡ v → b ≡ v
said is known = sym is ∙ known

-- and what the node costs then
pub costs : {a b v : Bool} → a ≡ b → a ≡ v → one_if b ≡ one_if v
costs is known = ap one_if (said is known)

-- a tree of one node
pub record IsOneNode (tx : Tx) : Type 0 where
  pub levels : depth tx ≡ 1
  pub counts : (test : Tx → Bool) → count test tx ≡ one_if (test tx)

-- one that holds no other is so
pub one_node : (tx : Tx) → ((txs : Vec Tx Global) → tx ≡ Seq txs → ⊥) → ((reg : ℕ) (then other : Box Tx Global) → tx ≡ When reg then other → ⊥) → ((first second : Box Tx Global) → tx ≡ OrElse first second → ⊥) → IsOneNode tx
one_node tx no_seq no_when no_or_else = on (out-Tx tx) (sym (roll-out-Tx tx))
  where
    same : (t : Tx) → tx ≡ t → IsOneNode t → IsOneNode tx
    same t is one = subst IsOneNode (sym is) one

    on : (x : Tx-F Tx) → tx ≡ roll-Tx x → IsOneNode tx
    on level.Skip is = same _ (is ∙ rolls-Skip) (record { levels = refl; counts = λ test. refl })
    on (level.Seq txs) is = absurd (no_seq txs (is ∙ rolls-Seq txs))
    on (level.Put reg n) is = same _ (is ∙ rolls-Put reg n) (record { levels = refl; counts = λ test. refl })
    on (level.Read var reg) is = same _ (is ∙ rolls-Read var reg) (record { levels = refl; counts = λ test. refl })
    on (level.Write var reg) is = same _ (is ∙ rolls-Write var reg) (record { levels = refl; counts = λ test. refl })
    on (level.Step index args out) is = same _ (is ∙ rolls-Step index args out) (record { levels = refl; counts = λ test. refl })
    on (level.When reg then other) is = absurd (no_when reg then other (is ∙ rolls-When reg then other))
    on (level.OrElse first second) is = absurd (no_or_else first second (is ∙ rolls-OrElse first second))
    on level.Retry is = same _ (is ∙ rolls-Retry) (record { levels = refl; counts = λ test. refl })
    on (level.Abort code) is = same _ (is ∙ rolls-Abort code) (record { levels = refl; counts = λ test. refl })
    on (level.Check name) is = same _ (is ∙ rolls-Check name) (record { levels = refl; counts = λ test. refl })
    on (level.Retire name) is = same _ (is ∙ rolls-Retire name) (record { levels = refl; counts = λ test. refl })

module _ (bad : Tx → Bool) where
  pub count-When : (reg : ℕ) (then other : Box Tx Global) → count bad (When reg then other) ≡ one_if (bad (When reg then other)) + (count bad then.value + count bad other.value)
  count-When reg then other = search (rules, the_lemmas)

  pub count-OrElse : (first second : Box Tx Global) → count bad (OrElse first second) ≡ one_if (bad (OrElse first second)) + (count bad first.value + count bad second.value)
  count-OrElse first second = search (rules, the_lemmas)

  pub when_good : (tx : Tx) (reg : ℕ) (then other : Box Tx Global) → tx ≡ When reg then other → bad tx ≡ false → count bad then.value ≡ 0 → count bad other.value ≡ 0 → count bad tx ≡ 0
  when_good tx reg then other is fine first second =
      let here : one_if (bad (When reg then other)) ≡ 0 = ap (λ t. one_if (bad t)) (sym is) ∙ ap one_if fine in
      ap (count bad) is ∙ count-When reg then other ∙ omega (arith, here, first, second)

  pub or_else_good : (tx : Tx) (a b : Box Tx Global) → tx ≡ OrElse a b → bad tx ≡ false → count bad a.value ≡ 0 → count bad b.value ≡ 0 → count bad tx ≡ 0
  or_else_good tx a b is fine first second =
      let here : one_if (bad (OrElse a b)) ≡ 0 = ap (λ t. one_if (bad t)) (sym is) ∙ ap one_if fine in
      ap (count bad) is ∙ count-OrElse a b ∙ omega (arith, here, first, second)

pub each_some : {X : Type 0} (o : Option X) {P Q : X → Type 0} → ((x : X) → P x → Q x) → IfSome o P → IfSome o Q
each_some (Some x) then p = then x p
each_some None then p = tt

-- what a choice, or an alternative, comes to: itself, and its two trees
pub record HasTwo (tx a b : Tx) : Type 0 where
  pub shallow : (most : ℕ) → 1 ≤ most → depth a ≤ most - 1 → depth b ≤ most - 1 → depth tx ≤ most
  pub first_shallow : (most : ℕ) → depth tx ≤ most → depth a ≤ most - 1
  pub second_shallow : (most : ℕ) → depth tx ≤ most → depth b ≤ most - 1
  pub counts : (test : Tx → Bool) → count test tx ≡ one_if (test tx) + (count test a + count test b)

depth-When : (reg : ℕ) (then other : Box Tx Global) → depth (When reg then other) ≡ 1 + max (depth then.value) (depth other.value)
depth-When reg then other = search (rules, the_lemmas)

depth-OrElse : (a b : Box Tx Global) → depth (OrElse a b) ≡ 1 + max (depth a.value) (depth b.value)
depth-OrElse a b = search (rules, the_lemmas)

deeper : (d a b : ℕ) → d ≡ 1 + max a b → (most : ℕ) → 1 ≤ most → a ≤ most - 1 → b ≤ most - 1 → d ≤ most
deeper d a b is most some one other = omega (arith, is, some, one, other)

first_less : (d a b : ℕ) → d ≡ 1 + max a b → (most : ℕ) → d ≤ most → a ≤ most - 1
first_less d a b is most so = omega (arith, is, so)

second_less : (d a b : ℕ) → d ≡ 1 + max a b → (most : ℕ) → d ≤ most → b ≤ most - 1
second_less d a b is most so = omega (arith, is, so)

pub when_two : (tx : Tx) (reg : ℕ) (then other : Box Tx Global) → tx ≡ When reg then other → HasTwo tx then.value other.value
when_two tx reg then other is =
    let levels : depth tx ≡ 1 + max (depth then.value) (depth other.value) = ap depth is ∙ depth-When reg then other in
    record {
      shallow = deeper (depth tx) (depth then.value) (depth other.value) levels;
      first_shallow = first_less (depth tx) (depth then.value) (depth other.value) levels;
      second_shallow = second_less (depth tx) (depth then.value) (depth other.value) levels;
      counts = λ test. ap (count test) is ∙ count-When test reg then other ∙ ap (λ (t : Tx). one_if (test t) + (count test then.value + count test other.value)) (sym is);
    }

pub or_else_two : (tx : Tx) (a b : Box Tx Global) → tx ≡ OrElse a b → HasTwo tx a.value b.value
or_else_two tx a b is =
    let levels : depth tx ≡ 1 + max (depth a.value) (depth b.value) = ap depth is ∙ depth-OrElse a b in
    record {
      shallow = deeper (depth tx) (depth a.value) (depth b.value) levels;
      first_shallow = first_less (depth tx) (depth a.value) (depth b.value) levels;
      second_shallow = second_less (depth tx) (depth a.value) (depth b.value) levels;
      counts = λ test. ap (count test) is ∙ count-OrElse test a b ∙ ap (λ (t : Tx). one_if (test t) + (count test a.value + count test b.value)) (sym is);
    }
