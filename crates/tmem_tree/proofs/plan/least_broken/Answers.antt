use Rattle.std.proofs.Common.{◌<◌, ◌≤◌, arith, rules, ⊎_elim}
use Rattle.std.proofs.lemmas.Bool.{cases_lt}
use Rattle.tmem_tree.specs.Limits.{depth, count, is_retire}
use Rattle.tmem_tree.specs.Signatures.{names_of}
use Rattle.tmem_tree.proofs.Least.{suffices, all_hold, cause_number-less}
use Rattle.tmem_tree.proofs.plan.least_broken.Goals as goal

pub returns-then-is_none-2 : goal.returns-then-is_none-2
returns-then-is_none-2 g c =
    let shallow : depth c.args.tx.now ≤ 32 = c.is_within_depth.ensures.0 (search rules) in (
      c.spend-2.ensures.lacking c.if-is_none-2.ensures,
      all_hold (g.S.StoredSteps.arities c.args.steps.now) c.args.vars (names_of c.args.signatures.now) c.args.tx.now 3 (λ less broken. omega (arith, shallow, broken)) (λ less. suffices c.spend.result _ _ c.spend.ensures.enough c.if-is_none.ensures) (λ less. absurd (omega (arith, less))) (λ less. absurd (omega (arith, less))) (λ less. absurd (omega (arith, less))) (λ less. absurd (omega (arith, less))) (λ less. absurd (omega (arith, less))) (λ less. absurd (omega (arith, less))) (λ less. absurd (omega (arith, less))) (λ less. absurd (omega (arith, less))),
    )

pub returns-then-is_none-3 : goal.returns-then-is_none-3
returns-then-is_none-3 g c =
    let shallow : depth c.args.tx.now ≤ 32 = c.is_within_depth.ensures.0 (search rules) in (
      c.spend-3.ensures.lacking c.if-is_none-3.ensures,
      all_hold (g.S.StoredSteps.arities c.args.steps.now) c.args.vars (names_of c.args.signatures.now) c.args.tx.now 4 (λ less broken. omega (arith, shallow, broken)) (λ less. suffices c.spend.result _ _ c.spend.ensures.enough c.if-is_none.ensures) (λ less. suffices c.spend-2.result _ _ c.spend-2.ensures.enough c.if-is_none-2.ensures) (λ less. absurd (omega (arith, less))) (λ less. absurd (omega (arith, less))) (λ less. absurd (omega (arith, less))) (λ less. absurd (omega (arith, less))) (λ less. absurd (omega (arith, less))) (λ less. absurd (omega (arith, less))) (λ less. absurd (omega (arith, less))),
    )

pub returns-then-is_none-4 : goal.returns-then-is_none-4
returns-then-is_none-4 g c =
    let shallow : depth c.args.tx.now ≤ 32 = c.is_within_depth.ensures.0 (search rules) in (
      c.spend-4.ensures.lacking c.if-is_none-4.ensures,
      all_hold (g.S.StoredSteps.arities c.args.steps.now) c.args.vars (names_of c.args.signatures.now) c.args.tx.now 5 (λ less broken. omega (arith, shallow, broken)) (λ less. suffices c.spend.result _ _ c.spend.ensures.enough c.if-is_none.ensures) (λ less. suffices c.spend-2.result _ _ c.spend-2.ensures.enough c.if-is_none-2.ensures) (λ less. suffices c.spend-3.result _ _ c.spend-3.ensures.enough c.if-is_none-3.ensures) (λ less. absurd (omega (arith, less))) (λ less. absurd (omega (arith, less))) (λ less. absurd (omega (arith, less))) (λ less. absurd (omega (arith, less))) (λ less. absurd (omega (arith, less))) (λ less. absurd (omega (arith, less))),
    )

pub returns-then-is_none-5 : goal.returns-then-is_none-5
returns-then-is_none-5 g c =
    let shallow : depth c.args.tx.now ≤ 32 = c.is_within_depth.ensures.0 (search rules) in (
      c.spend-5.ensures.lacking c.if-is_none-5.ensures,
      all_hold (g.S.StoredSteps.arities c.args.steps.now) c.args.vars (names_of c.args.signatures.now) c.args.tx.now 6 (λ less broken. omega (arith, shallow, broken)) (λ less. suffices c.spend.result _ _ c.spend.ensures.enough c.if-is_none.ensures) (λ less. suffices c.spend-2.result _ _ c.spend-2.ensures.enough c.if-is_none-2.ensures) (λ less. suffices c.spend-3.result _ _ c.spend-3.ensures.enough c.if-is_none-3.ensures) (λ less. suffices c.spend-4.result _ _ c.spend-4.ensures.enough c.if-is_none-4.ensures) (λ less. absurd (omega (arith, less))) (λ less. absurd (omega (arith, less))) (λ less. absurd (omega (arith, less))) (λ less. absurd (omega (arith, less))) (λ less. absurd (omega (arith, less))),
    )

pub returns-then-is_none-6 : goal.returns-then-is_none-6
returns-then-is_none-6 g c =
    let shallow : depth c.args.tx.now ≤ 32 = c.is_within_depth.ensures.0 (search rules) in (
      c.spend-6.ensures.lacking c.if-is_none-6.ensures,
      all_hold (g.S.StoredSteps.arities c.args.steps.now) c.args.vars (names_of c.args.signatures.now) c.args.tx.now 7 (λ less broken. omega (arith, shallow, broken)) (λ less. suffices c.spend.result _ _ c.spend.ensures.enough c.if-is_none.ensures) (λ less. suffices c.spend-2.result _ _ c.spend-2.ensures.enough c.if-is_none-2.ensures) (λ less. suffices c.spend-3.result _ _ c.spend-3.ensures.enough c.if-is_none-3.ensures) (λ less. suffices c.spend-4.result _ _ c.spend-4.ensures.enough c.if-is_none-4.ensures) (λ less. suffices c.spend-5.result _ _ c.spend-5.ensures.enough c.if-is_none-5.ensures) (λ less. absurd (omega (arith, less))) (λ less. absurd (omega (arith, less))) (λ less. absurd (omega (arith, less))) (λ less. absurd (omega (arith, less))),
    )

pub returns-then-is_none-7 : goal.returns-then-is_none-7
returns-then-is_none-7 g c =
    let shallow : depth c.args.tx.now ≤ 32 = c.is_within_depth.ensures.0 (search rules) in (
      c.spend-7.ensures.lacking c.if-is_none-7.ensures,
      all_hold (g.S.StoredSteps.arities c.args.steps.now) c.args.vars (names_of c.args.signatures.now) c.args.tx.now 8 (λ less broken. omega (arith, shallow, broken)) (λ less. suffices c.spend.result _ _ c.spend.ensures.enough c.if-is_none.ensures) (λ less. suffices c.spend-2.result _ _ c.spend-2.ensures.enough c.if-is_none-2.ensures) (λ less. suffices c.spend-3.result _ _ c.spend-3.ensures.enough c.if-is_none-3.ensures) (λ less. suffices c.spend-4.result _ _ c.spend-4.ensures.enough c.if-is_none-4.ensures) (λ less. suffices c.spend-5.result _ _ c.spend-5.ensures.enough c.if-is_none-5.ensures) (λ less. suffices c.spend-6.result _ _ c.spend-6.ensures.enough c.if-is_none-6.ensures) (λ less. absurd (omega (arith, less))) (λ less. absurd (omega (arith, less))) (λ less. absurd (omega (arith, less))),
    )

pub returns-then-is_none-8 : goal.returns-then-is_none-8
returns-then-is_none-8 g c =
    let shallow : depth c.args.tx.now ≤ 32 = c.is_within_depth.ensures.0 (search rules) in (
      c.spend-8.ensures.lacking c.if-is_none-8.ensures,
      all_hold (g.S.StoredSteps.arities c.args.steps.now) c.args.vars (names_of c.args.signatures.now) c.args.tx.now 9 (λ less broken. omega (arith, shallow, broken)) (λ less. suffices c.spend.result _ _ c.spend.ensures.enough c.if-is_none.ensures) (λ less. suffices c.spend-2.result _ _ c.spend-2.ensures.enough c.if-is_none-2.ensures) (λ less. suffices c.spend-3.result _ _ c.spend-3.ensures.enough c.if-is_none-3.ensures) (λ less. suffices c.spend-4.result _ _ c.spend-4.ensures.enough c.if-is_none-4.ensures) (λ less. suffices c.spend-5.result _ _ c.spend-5.ensures.enough c.if-is_none-5.ensures) (λ less. suffices c.spend-6.result _ _ c.spend-6.ensures.enough c.if-is_none-6.ensures) (λ less. suffices c.spend-7.result _ _ c.spend-7.ensures.enough c.if-is_none-7.ensures) (λ less. absurd (omega (arith, less))) (λ less. absurd (omega (arith, less))),
    )

pub returns : goal.returns
returns g c =
    let shallow : depth c.args.tx.now ≤ 32 = c.is_within_depth.ensures.0 (search rules) in
    let tx = c.args.tx.now in
    let rest = all_hold (g.S.StoredSteps.arities c.args.steps.now) c.args.vars (names_of c.args.signatures.now) tx in
    let retires : 8 < count is_retire tx = ⊎_elim (λ more. more)
    (λ fine. absurd (c.requires (λ cause. rest 11 (λ less broken. omega (arith, shallow, broken)) (λ less. suffices c.spend.result _ _ c.spend.ensures.enough c.if-is_none.ensures) (λ less. suffices c.spend-2.result _ _ c.spend-2.ensures.enough c.if-is_none-2.ensures) (λ less. suffices c.spend-3.result _ _ c.spend-3.ensures.enough c.if-is_none-3.ensures) (λ less. suffices c.spend-4.result _ _ c.spend-4.ensures.enough c.if-is_none-4.ensures) (λ less. suffices c.spend-5.result _ _ c.spend-5.ensures.enough c.if-is_none-5.ensures) (λ less. suffices c.spend-6.result _ _ c.spend-6.ensures.enough c.if-is_none-6.ensures) (λ less. suffices c.spend-7.result _ _ c.spend-7.ensures.enough c.if-is_none-7.ensures) (λ less. suffices c.spend-8.result _ _ c.spend-8.ensures.enough c.if-is_none-8.ensures) (λ less broken. omega (arith, fine, broken)) cause (cause_number-less cause))))
    (cases_lt 8 (count is_retire tx)) in
    (retires, rest 10 (λ less broken. omega (arith, shallow, broken)) (λ less. suffices c.spend.result _ _ c.spend.ensures.enough c.if-is_none.ensures) (λ less. suffices c.spend-2.result _ _ c.spend-2.ensures.enough c.if-is_none-2.ensures) (λ less. suffices c.spend-3.result _ _ c.spend-3.ensures.enough c.if-is_none-3.ensures) (λ less. suffices c.spend-4.result _ _ c.spend-4.ensures.enough c.if-is_none-4.ensures) (λ less. suffices c.spend-5.result _ _ c.spend-5.ensures.enough c.if-is_none-5.ensures) (λ less. suffices c.spend-6.result _ _ c.spend-6.ensures.enough c.if-is_none-6.ensures) (λ less. suffices c.spend-7.result _ _ c.spend-7.ensures.enough c.if-is_none-7.ensures) (λ less. suffices c.spend-8.result _ _ c.spend-8.ensures.enough c.if-is_none-8.ensures) (λ less. absurd (omega (arith, less))))
