-- Where no node passes one test, none passes another that passes fewer.
use Rattle.std.proofs.Common.{◌≡◌, ℕ, ◌+◌, Bool, true, false, List, refl, ap, arith}
use Rattle.tmem_tree.specs.declared.tx.Tx.{Tx, Row_of-Tx, end_of-Tx, more_of-Tx}
use Rattle.tmem_tree.specs.declared.tx.Tx.TheVariants.{Skip, Seq', Put, Read, Write, Step, When', OrElse', Retry, Abort, Check, Retire}
use Rattle.tmem_tree.specs.Limits.{one_if, count, count_all, has_unknown_name, lacks_signature}
use Rattle.tmem_tree.specs.Plans.{FitsNames, HasSignatures}

module _ (p q : Tx → Bool) (fewer : (tx : Tx) → p tx ≡ false → q tx ≡ false) where
  none_here : (tx : Tx) → one_if (p tx) ≡ 0 → one_if (q tx) ≡ 0
  none_here tx = on (p tx) (q tx) (fewer tx)
    where
      on : (a b : Bool) → (a ≡ false → b ≡ false) → one_if a ≡ 0 → one_if b ≡ 0
      on true b then none = absurd (omega arith)
      on false b then none = ap one_if (then refl)

  pub both : (a b a' b' : ℕ) → (a ≡ 0 → a' ≡ 0) → (b ≡ 0 → b' ≡ 0) → a + b ≡ 0 → a' + b' ≡ 0
  both a b a' b' first second none =
      let no_a : a ≡ 0 = omega arith in
      let no_b : b ≡ 0 = omega arith in
      omega (arith, first no_a, second no_b)

  mutual
    pub none_left : (tx : Tx) → count p tx ≡ 0 → count q tx ≡ 0
    none_left Skip = none_here Skip
    none_left (Seq' shape txs) = both _ _ _ _ (none_here (Seq' shape txs)) (none_left_all txs)
    none_left (Put reg number) = none_here (Put reg number)
    none_left (Read var reg) = none_here (Read var reg)
    none_left (Write var reg) = none_here (Write var reg)
    none_left (Step index args out) = none_here (Step index args out)
    none_left (When' reg i a j b) = both _ _ _ _ (none_here (When' reg i a j b)) (both _ _ _ _ (none_left a) (none_left b))
    none_left (OrElse' i a j b) = both _ _ _ _ (none_here (OrElse' i a j b)) (both _ _ _ _ (none_left a) (none_left b))
    none_left Retry = none_here Retry
    none_left (Abort code) = none_here (Abort code)
    none_left (Check name) = none_here (Check name)
    none_left (Retire name) = none_here (Retire name)

    none_left_all : {m : _} (txs : Row_of-Tx m) → count_all p txs ≡ 0 → count_all q txs ≡ 0
    none_left_all end_of-Tx none = refl
    none_left_all (more_of-Tx tx txs) none = both _ _ _ _ (none_left tx) (none_left_all txs) none

-- where each name that it names is known, each that it checks is
known_signature : (names : List (List ℕ)) (tx : Tx) → has_unknown_name names tx ≡ false → lacks_signature names tx ≡ false
known_signature names (Check name) fine = fine
known_signature names _ fine = refl

pub has_signatures : (names : List (List ℕ)) (tx : Tx) → FitsNames names tx → HasSignatures names tx
has_signatures names = none_left (has_unknown_name names) (lacks_signature names) (known_signature names)
